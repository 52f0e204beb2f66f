-- The words of fixnums are these numbers.
use Rattle.std.proofs.Common.{◌≡◌, ℤ, pos, negsuc, ◌+◌, ◌*◌, ◌/◌, ◌%◌, ◌^◌, ◌<◌, ◌==◌, suc, true, refl, ap, arith, eq-eqb, IsTrue}
use Rattle.std.proofs.lemmas.Int.{to_z_pos}
use Rattle.std.proofs.lemmas.Bool.{ltb-true}
use Rattle.std.proofs.Math.Facts.{to_z-neg}
use Rattle.std.specs.Int.{w64, cast_signed}
use Rattle.std.specs.Prelude.{int_div}
use Rattle.object_model.specs.declared.kinds.WordKind.TheVariants.{Fixnum}
use Rattle.object_model.specs.Words.{is_fixnum, number_word, word_kind}

-- the signed value of a fixnum's word is 4 times the number
word_value : (z : ℤ) → IsTrue (is_fixnum z) → int_div (cast_signed w64 (number_word z)) (pos 4) ≡ z
word_value (pos n) small =
    let lt : n * 4 < 2 ^ 63 = (let h : n < 2 ^ 61 = ltb-true n (2 ^ 61) small in omega arith) in
    let quotient : n * 4 / 4 ≡ n = omega arith in
    rw (to_z_pos w64 (n * 4) lt, quotient) refl
word_value (negsuc n) small =
    let lt : 4 * n + 3 < 2 ^ 63 = (let h : n < 2 ^ 61 = ltb-true n (2 ^ 61) small in omega arith) in
    let e : suc n * 4 ≡ suc (4 * n + 3) = omega arith in
    let quotient : suc (4 * n + 3) / 4 ≡ suc n = omega arith in
    rw (e, to_z-neg w64 (4 * n + 3) lt, quotient) refl

-- and a multiple of 4
word_whole : (z : ℤ) → IsTrue (is_fixnum z) → number_word z % 4 ≡ 0
word_whole (pos n) small = omega arith
word_whole (negsuc n) small =
    let h : n < 2 ^ 61 = ltb-true n (2 ^ 61) small in
    let e : suc n * 4 ≡ suc (4 * n + 3) = omega arith in
    rw e (omega arith)

pub fixnum_reads_back : (z : ℤ) → IsTrue (is_fixnum z) → word_kind (number_word z) ≡ Fixnum z
fixnum_reads_back z small =
    let whole : (number_word z % 4 == 0) ≡ true = eq-eqb (number_word z % 4) 0 (word_whole z small) in
    rw whole (ap Fixnum (word_value z small))
