-- Encoding and decoding: each the inverse of the other.
use Rattle.std.proofs.Common.{◌≡◌, ℕ, ◌^◌, ◌<◌, ap, ◌∙◌, Some}
use Rattle.rv_isa.specs.declared.instr.Instr.{Instr}
use Rattle.rv_isa.specs.Word.{word_of, fields_of}
use Rattle.rv_isa.specs.Encoding.{fields, encoding, decoded, instr_of}
use Rattle.rv_isa.specs.Valid.{IsInstr}
use Rattle.rv_isa.proofs.RoundTrip.{fields_of-word_of, word_of-fields_of, are_fields-of}
use Rattle.rv_isa.proofs.FromWords.{reads_back}
use Rattle.rv_isa.proofs.ToWords.{are_fields, instr_of-fields}

pub decoded-encoding : (x : Instr) → IsInstr x → decoded (encoding x) ≡ Some x
unfolding decoded
decoded-encoding x valid = ap instr_of (fields_of-word_of (fields x) (are_fields x valid)) ∙ instr_of-fields x valid

pub encoding-decoded : (w : ℕ) → w < 2 ^ 32 → (x : Instr) → decoded w ≡ Some x → IsInstr x × (encoding x ≡ w)
unfolding decoded
encoding-decoded w k x e =
    let b = (reads_back (fields_of w) (are_fields-of w k)).back x e in
    (b.1, ap word_of b.0 ∙ word_of-fields_of w k)
