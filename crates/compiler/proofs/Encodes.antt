-- Each instruction of a program's code has a word that is read back as that instruction.
use Rattle.std.proofs.Common.{refl, ap, ◌∙◌, arith, length-append}
use Rattle.std.specs.Prelude.{◌≡◌, ℕ, zero, suc, ◌+◌, ◌*◌, ◌/◌, ◌%◌, ◌^◌, ◌<◌, ◌≤◌, true, false, ◌&&◌, All, List, [], ◌∷◌, ◌++◌, length, Option, Some}
use Rattle.lisp_base.specs.declared.values.Val.{Val}
use Rattle.lisp_base.specs.declared.values.Val.TheVariants.{Int, Char, Sym, Ref}
use Rattle.lisp_base.specs.declared.values.Place.{Place}
use Rattle.lisp_base.specs.declared.primitives.Primitive.TheVariants as op
use Rattle.lisp_base.specs.Sort.{number_of}
use Rattle.core_form.specs.Tree.{Core, Quote, If, Progn, Primitive, The, Cores, no_core, core, Top}
use Rattle.rv_isa.specs.declared.fields.Fields.{Fields}
use Rattle.rv_isa.specs.declared.instr.Instr.{Instr}
use Rattle.rv_isa.specs.declared.instr.Instr.TheVariants as i
use Rattle.rv_isa.specs.declared.instr.Upper.TheVariants as upper
use Rattle.rv_isa.specs.declared.instr.Branch.TheVariants as branch
use Rattle.rv_isa.specs.declared.instr.ImmOp.TheVariants as imm
use Rattle.rv_isa.specs.declared.instr.Shift.TheVariants as shift
use Rattle.rv_isa.specs.Word.{AreFields, word_of, fields_of, jump_bits, jump_half}
use Rattle.rv_isa.specs.Encoding.{fields, encoding, decoded, instr_of, imm_instr_of}
use Rattle.object_model.specs.Words.{character_word}
use Rattle.compiler.specs.declared.slot.Slot.{Slot}
use Rattle.compiler.specs.Words.{symbol_word}
use Rattle.compiler.specs.Templates.{nil_slots, word_slots, read_slots, check_slots, write_slots, if_slots, test_slots, skip, end_slots, upper_part, lower_part}
use Rattle.compiler.specs.Code.{code_of, sequence_of, constant_slots, symbol_slots, forms_code, program_code, is_served, are_served, is_constant, is_character_type, is_file, forms_served}
use Rattle.compiler.specs.Compiled.{IsNear}
use Rattle.compiler.proofs.Inputs.{char_bound}
use Rattle.compiler.proofs.Nodes.{and_left, and_right}
use Rattle.compiler.proofs.Sizes.{near_first, near_rest}

same_fields : (f g : Fields) → f.opcode ≡ g.opcode → f.rd ≡ g.rd → f.funct3 ≡ g.funct3 → f.rs1 ≡ g.rs1 → f.rs2 ≡ g.rs2 → f.funct7 ≡ g.funct7 → f ≡ g
same_fields f g a b c d e h =
    ap (λ (x : ℕ). let r : Fields = record { opcode = x; rd = f.rd; funct3 = f.funct3; rs1 = f.rs1; rs2 = f.rs2; funct7 = f.funct7 } in r) a
    ∙ ap (λ (x : ℕ). let r : Fields = record { opcode = g.opcode; rd = x; funct3 = f.funct3; rs1 = f.rs1; rs2 = f.rs2; funct7 = f.funct7 } in r) b
    ∙ ap (λ (x : ℕ). let r : Fields = record { opcode = g.opcode; rd = g.rd; funct3 = x; rs1 = f.rs1; rs2 = f.rs2; funct7 = f.funct7 } in r) c
    ∙ ap (λ (x : ℕ). let r : Fields = record { opcode = g.opcode; rd = g.rd; funct3 = g.funct3; rs1 = x; rs2 = f.rs2; funct7 = f.funct7 } in r) d
    ∙ ap (λ (x : ℕ). let r : Fields = record { opcode = g.opcode; rd = g.rd; funct3 = g.funct3; rs1 = g.rs1; rs2 = x; funct7 = f.funct7 } in r) e
    ∙ ap (λ (x : ℕ). let r : Fields = record { opcode = g.opcode; rd = g.rd; funct3 = g.funct3; rs1 = g.rs1; rs2 = g.rs2; funct7 = x } in r) h

read_back : (f : Fields) → AreFields f → fields_of (word_of f) ≡ f
unfolding fields_of word_of
read_back f k = same_fields _ f (omega arith) (omega arith) (omega arith) (omega arith) (omega arith) (omega arith)

word_small : (f : Fields) → AreFields f → word_of f < 2 ^ 32
unfolding word_of
word_small f k = omega arith

pub record Encodes (x : Instr) : Type 0 where
  pub decodes : decoded (encoding x) ≡ Some x
  pub small : encoding x < 2 ^ 32

encodes : (x : Instr) → AreFields (fields x) → instr_of (fields x) ≡ Some x → Encodes x
unfolding decoded
encodes x f e = record { decodes = ap instr_of (read_back (fields x) f) ∙ e; small = word_small (fields x) f }

add_encodes : (rd rs n : ℕ) → rd < 2 ^ 5 → rs < 2 ^ 5 → n < 2 ^ 12 → Encodes (i.Imm imm.Addi rd rs n)
unfolding instr_of imm_instr_of
add_encodes rd rs n a b c =
    let e : n / 2 ^ 5 * 2 ^ 5 + n % 2 ^ 5 ≡ n = omega arith in
    encodes (i.Imm imm.Addi rd rs n)
    (record { opcode = omega arith; rd = omega arith; funct3 = omega arith; rs1 = omega arith; rs2 = omega arith; funct7 = omega arith })
    (ap (λ (m : ℕ). let r : Option Instr = Some (i.Imm imm.Addi rd rs m) in r) e)

upper_encodes : (n : ℕ) → n < 2 ^ 20 → Encodes (i.Upper upper.Lui 5 n)
unfolding instr_of
upper_encodes n h =
    let e : ((n / 2 ^ 13 * 2 ^ 5 + n / 2 ^ 8 % 2 ^ 5) * 2 ^ 5 + n / 2 ^ 3 % 2 ^ 5) * 2 ^ 3 + n % 2 ^ 3 ≡ n = omega arith in
    encodes (i.Upper upper.Lui 5 n)
    (record { opcode = omega arith; rd = omega arith; funct3 = omega arith; rs1 = omega arith; rs2 = omega arith; funct7 = omega arith })
    (ap (λ (m : ℕ). let r : Option Instr = Some (i.Upper upper.Lui 5 m) in r) e)

jump_back : (n : ℕ) → n < 2 ^ 20 → jump_half (jump_bits n) ≡ n
jump_back n h = omega arith

jump_small : (n : ℕ) → n < 2 ^ 20 → jump_bits n < 2 ^ 20
jump_small n h = omega arith

jump_encodes : (n : ℕ) → n < 2 ^ 20 → Encodes (i.Jal 0 n)
unfolding instr_of
jump_encodes n h =
    let b = jump_small n h in
    let m = jump_bits n in
    let u : ((m / 2 ^ 13 * 2 ^ 5 + m / 2 ^ 8 % 2 ^ 5) * 2 ^ 5 + m / 2 ^ 3 % 2 ^ 5) * 2 ^ 3 + m % 2 ^ 3 ≡ m = omega arith in
    encodes (i.Jal 0 n)
    (record { opcode = omega arith; rd = omega arith; funct3 = omega arith; rs1 = omega arith; rs2 = omega arith; funct7 = omega arith })
    (ap (λ (k : ℕ). let r : Option Instr = Some (i.Jal 0 (jump_half k)) in r) u ∙ ap (λ (k : ℕ). let r : Option Instr = Some (i.Jal 0 k) in r) (jump_back n h))

fixed : (x : Instr) → decoded (encoding x) ≡ Some x → encoding x < 2 ^ 32 → Encodes x
fixed x a b = record { decodes = a; small = b }

abbrev pub EncodeAll : List Slot → Type 0
EncodeAll [] = Unit {0}
EncodeAll (x ∷ xs) = Encodes x.instr × EncodeAll xs

all_of : (xs ys : List Slot) → EncodeAll xs → EncodeAll ys → EncodeAll (xs ++ ys)
all_of [] ys a b = b
all_of (x ∷ xs) ys a b = (a.0, all_of xs ys a.1 b)

ecall_encodes : Encodes i.Ecall
unfolding decoded instr_of fields_of word_of
ecall_encodes = fixed i.Ecall refl (omega arith)

nil_encodes : EncodeAll nil_slots
nil_encodes = (add_encodes 10 19 0 (omega arith) (omega arith) (omega arith), tt)

word_encodes : (w : ℕ) → w < 2 ^ 30 → EncodeAll (word_slots w)
word_encodes w h = (upper_encodes (upper_part w) (omega arith), (add_encodes 10 5 (lower_part w) (omega arith) (omega arith) (omega arith), tt))

read_encodes : EncodeAll read_slots
unfolding decoded instr_of imm_instr_of fields_of word_of
read_encodes = (
  add_encodes 17 0 2 (omega arith) (omega arith) (omega arith),
  (
    ecall_encodes,
    (
      add_encodes 5 0 4095 (omega arith) (omega arith) (omega arith),
      (
        fixed (i.Branch branch.Beq 16 5 8) refl (omega arith),
        (
          fixed (i.Shift shift.Sll 16 16 8) refl (omega arith),
          (add_encodes 10 16 2 (omega arith) (omega arith) (omega arith), (jump_encodes 4 (omega arith), (add_encodes 10 19 0 (omega arith) (omega arith) (omega arith), tt))),
        ),
      ),
    ),
  ),
)

check_encodes : (p : Place) → EncodeAll (check_slots p)
unfolding decoded instr_of imm_instr_of fields_of word_of
check_encodes p = (
  fixed (i.Imm imm.Andi 5 10 255) refl (omega arith),
  (
    add_encodes 16 0 2 (omega arith) (omega arith) (omega arith),
    (
      fixed (i.Branch branch.Beq 5 16 8) refl (omega arith),
      (add_encodes 17 0 4 (omega arith) (omega arith) (omega arith), (add_encodes 16 0 1 (omega arith) (omega arith) (omega arith), (ecall_encodes, tt))),
    ),
  ),
)

write_encodes : EncodeAll write_slots
unfolding decoded instr_of imm_instr_of fields_of word_of
write_encodes = (fixed (i.Shift shift.Srl 16 10 8) refl (omega arith), (add_encodes 17 0 1 (omega arith) (omega arith) (omega arith), (ecall_encodes, tt)))

end_encodes : EncodeAll end_slots
end_encodes = (add_encodes 17 0 3 (omega arith) (omega arith) (omega arith), (ecall_encodes, tt))

skip_encodes : (n : ℕ) → 4 * (n + 1) < 2 ^ 20 → EncodeAll (skip n ∷ [])
skip_encodes n h = (jump_encodes (2 * (n + 1)) (omega arith), tt)

test_encodes : (n : ℕ) → 4 * (n + 2) < 2 ^ 20 → EncodeAll (test_slots n)
unfolding decoded instr_of fields_of word_of
test_encodes n h = (fixed (i.Branch branch.Bne 10 19 4) refl (omega arith), (jump_encodes (2 * (n + 1 + 1)) (omega arith), tt))

if_encodes : (a b c : List Slot) → EncodeAll a → EncodeAll b → EncodeAll c → 4 * length (if_slots a b c) < 2 ^ 20 → EncodeAll (if_slots a b c)
if_encodes a b c ea eb ec h =
    let rest = skip (length c) ∷ c in
    let k1 = length-append b rest in
    let k2 = length-append a (test_slots (length b) ++ (b ++ rest)) in
    all_of a (test_slots (length b) ++ (b ++ rest)) ea
    (all_of (test_slots (length b)) (b ++ rest) (test_encodes (length b) (omega (arith, k1, k2)))
    (all_of b rest eb (all_of (skip (length c) ∷ []) c (skip_encodes (length c) (omega (arith, k1, k2))) ec)))

symbol_encodes : (n : ℕ) → EncodeAll (symbol_slots n)
symbol_encodes zero = nil_encodes
symbol_encodes (suc n) = word_encodes (symbol_word (suc n)) (omega arith)

char_word_small : (c : ℕ) → c < 0x110000 → character_word c < 2 ^ 30
char_word_small c h = omega arith

constant_encodes : (v : Val) → is_constant v ≡ true → EncodeAll (constant_slots v)
constant_encodes (Int z) h = tt
constant_encodes (Char c) h = word_encodes (character_word c) (char_word_small c (char_bound c h))
constant_encodes (Sym s) h = symbol_encodes (number_of s)
constant_encodes (Ref o) h = tt

-- the lengths of the parts
part_lengths : (a b c : List Slot) → (length a ≤ length (if_slots a b c)) × (length b ≤ length (if_slots a b c)) × (length c ≤ length (if_slots a b c))
part_lengths a b c =
    let k1 = length-append b (skip (length c) ∷ c) in
    let k2 = length-append a (test_slots (length b) ++ (b ++ (skip (length c) ∷ c))) in
    (omega (arith, k1, k2), omega (arith, k1, k2), omega (arith, k1, k2))

mutual
  pub code_encodes : (e : Core) → is_served e ≡ true → 4 * length (code_of e) < 2 ^ 20 → EncodeAll (code_of e)
  code_encodes (Quote p v) h near = constant_encodes v h
  code_encodes (If p a b c) h near =
      let h' = and_right (is_served a) (is_served b && is_served c) h in
      let k = part_lengths (code_of a) (code_of b) (code_of c) in
      if_encodes (code_of a) (code_of b) (code_of c)
      (code_encodes a (and_left (is_served a) (is_served b && is_served c) h) (omega (arith, k.0)))
      (code_encodes b (and_left (is_served b) (is_served c) h') (omega (arith, k.1)))
      (code_encodes c (and_right (is_served b) (is_served c) h') (omega (arith, k.2))) near
  code_encodes (Progn p es) h near = sequence_encodes es h near
  code_encodes (Primitive p op.ReadChar es) h near = read_encodes
  code_encodes (Primitive p op.WriteChar no_core) h near =
      let h' = and_right (is_file p) false h in absurd (cc)
  code_encodes (Primitive p op.WriteChar (core e no_core)) h near =
      let rest = check_slots p ++ write_slots in
      let k = length-append (code_of e) rest in
      all_of (code_of e) rest (code_encodes e (and_left (is_served e) true (and_right (is_file p) (is_served e && true) h)) (omega (arith, k))) (all_of (check_slots p) write_slots (check_encodes p) write_encodes)
  code_encodes (Primitive p op.WriteChar (core e (core f es))) h near =
      let h' = and_right (is_file p) false h in absurd (cc)
  code_encodes (Primitive p q es) h near = tt
  code_encodes (The p t e) h near =
      let k = length-append (code_of e) (check_slots p) in
      let h' = and_right (is_file p) (is_character_type t && is_served e) h in
      all_of (code_of e) (check_slots p) (code_encodes e (and_right (is_character_type t) (is_served e) h') (omega (arith, k))) (check_encodes p)
  code_encodes _ h near = absurd (cc)

  sequence_encodes : (es : Cores) → are_served es ≡ true → 4 * length (sequence_of es) < 2 ^ 20 → EncodeAll (sequence_of es)
  sequence_encodes no_core h near = nil_encodes
  sequence_encodes (core e no_core) h near = code_encodes e (and_left (is_served e) true h) near
  sequence_encodes (core e (core f es)) h near =
      let rest = sequence_of (core f es) in
      let k = length-append (code_of e) rest in
      all_of (code_of e) rest (code_encodes e (and_left (is_served e) (are_served (core f es)) h) (omega (arith, k)))
      (sequence_encodes (core f es) (and_right (is_served e) (are_served (core f es)) h) (omega (arith, k)))

forms_encode : (ts : List Top) → forms_served ts ≡ true → All IsNear ts → EncodeAll (forms_code ts)
forms_encode [] h near = tt
forms_encode (t ∷ ts) h near =
    all_of (code_of t.core) (forms_code ts)
    (code_encodes t.core (and_left (is_served t.core) (forms_served ts) h) (near_first t ts near))
    (forms_encode ts (and_right (is_served t.core) (forms_served ts) h) (near_rest t ts near))

pub program_encodes : (ts : List Top) → forms_served ts ≡ true → All IsNear ts → EncodeAll (program_code ts)
program_encodes ts h near =
    all_of nil_slots (forms_code ts ++ end_slots) nil_encodes (all_of (forms_code ts) end_slots (forms_encode ts h near) end_encodes)
