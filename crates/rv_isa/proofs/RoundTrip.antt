-- Words and fields, and instructions and fields: each the inverse of the other.
use Rattle.std.proofs.Common.{◌≡◌, ℕ, ◌^◌, ◌<◌, ap, ◌∙◌, arith}
use Rattle.rv_isa.specs.declared.fields.Fields.{Fields}
use Rattle.rv_isa.specs.Word.{AreFields, word_of, fields_of}

-- two rows of fields are the same where each field is
pub same_fields : (f g : Fields) → f.opcode ≡ g.opcode → f.rd ≡ g.rd → f.funct3 ≡ g.funct3 → f.rs1 ≡ g.rs1 → f.rs2 ≡ g.rs2 → f.funct7 ≡ g.funct7 → f ≡ g
same_fields f g a b c d e h =
    ap (λ (x : ℕ). let r : Fields = record { opcode = x; rd = f.rd; funct3 = f.funct3; rs1 = f.rs1; rs2 = f.rs2; funct7 = f.funct7 } in r) a
    ∙ ap (λ (x : ℕ). let r : Fields = record { opcode = g.opcode; rd = x; funct3 = f.funct3; rs1 = f.rs1; rs2 = f.rs2; funct7 = f.funct7 } in r) b
    ∙ ap (λ (x : ℕ). let r : Fields = record { opcode = g.opcode; rd = g.rd; funct3 = x; rs1 = f.rs1; rs2 = f.rs2; funct7 = f.funct7 } in r) c
    ∙ ap (λ (x : ℕ). let r : Fields = record { opcode = g.opcode; rd = g.rd; funct3 = g.funct3; rs1 = x; rs2 = f.rs2; funct7 = f.funct7 } in r) d
    ∙ ap (λ (x : ℕ). let r : Fields = record { opcode = g.opcode; rd = g.rd; funct3 = g.funct3; rs1 = g.rs1; rs2 = x; funct7 = f.funct7 } in r) e
    ∙ ap (λ (x : ℕ). let r : Fields = record { opcode = g.opcode; rd = g.rd; funct3 = g.funct3; rs1 = g.rs1; rs2 = g.rs2; funct7 = x } in r) h

pub fields_of-word_of : (f : Fields) → AreFields f → fields_of (word_of f) ≡ f
unfolding fields_of word_of
fields_of-word_of f k = same_fields _ f (omega arith) (omega arith) (omega arith) (omega arith) (omega arith) (omega arith)

pub word_of-fields_of : (w : ℕ) → w < 2 ^ 32 → word_of (fields_of w) ≡ w
unfolding fields_of word_of
word_of-fields_of w k = omega arith

pub are_fields-of : (w : ℕ) → w < 2 ^ 32 → AreFields (fields_of w)
unfolding fields_of
are_fields-of w k = record {
  opcode = omega arith;
  rd = omega arith;
  funct3 = omega arith;
  rs1 = omega arith;
  rs2 = omega arith;
  funct7 = omega arith;
}
