-- Numbers of bits past those of the integers of the language.
use Rattle.std.proofs.Common.{◌≡◌, ℕ, zero, suc, ◌-◌, ◌^◌, ◌<◌, ◌≤◌, ℤ, pos, negsuc, true, int_lt, int_le, arith, refl, sym, ◌∙◌}
use Rattle.std.proofs.Math.Nat.{pow-le-pow_right}
use Rattle.std.proofs.lemmas.Bool.{and_parts}
use Rattle.std.proofs.lemmas.Bool.Decides.{nat_tests}
use Rattle.lisp_base.specs.Lawful.{least_integer, greatest_integer, is_integer_value}
use Rattle.lisp_base.specs.Membership.{least_signed, past_signed}

large : (n : ℕ) → 63 ≤ n → 2 ^ 63 ≤ 2 ^ n
large n h = pow-le-pow_right (omega arith) h

-- an integer of the language is below so high a power, and not below its negative
pub below_power : (n : ℕ) (z : ℤ) → 63 ≤ n → is_integer_value z ≡ true → int_lt z (pos (2 ^ n)) ≡ true
unfolding least_integer greatest_integer
below_power n (pos m) h v =
    let k : 9223372036854775808 ≤ 2 ^ n = large n h in
    let w : int_le (pos m) (pos 9223372036854775807) ≡ true = (and_parts (int_le least_integer (pos m)) (int_le (pos m) greatest_integer) v).1 in
    grind (arith, nat_tests)
below_power n (negsuc m) h v = refl

pub above_power : (n : ℕ) (z : ℤ) → 63 ≤ n → is_integer_value z ≡ true → int_le (negsuc (2 ^ n - 1)) z ≡ true
unfolding least_integer greatest_integer
above_power n (pos m) h v = refl
above_power n (negsuc m) h v =
    let k : 9223372036854775808 ≤ 2 ^ n = large n h in
    let w : int_le (negsuc 9223372036854775807) (negsuc m) ≡ true = (and_parts (int_le least_integer (negsuc m)) (int_le (negsuc m) greatest_integer) v).0 in
    grind (arith, nat_tests)

pub within_greatest : (z : ℤ) → is_integer_value z ≡ true → int_le z (pos 9223372036854775807) ≡ true
unfolding least_integer greatest_integer
within_greatest z v = (and_parts _ _ v).1

pub within_least : (z : ℤ) → is_integer_value z ≡ true → int_le (negsuc 9223372036854775807) z ≡ true
unfolding least_integer greatest_integer
within_least z v = (and_parts _ _ v).0

pub above_signed : (bits : ℕ) (z : ℤ) → 63 < bits → is_integer_value z ≡ true → int_le (negsuc 9223372036854775807) z ≡ int_le (least_signed bits) z
above_signed zero z h v = absurd (omega arith)
above_signed (suc n) z h v = within_least z v ∙ sym (above_power n z (omega arith) v)

pub below_signed : (bits : ℕ) (z : ℤ) → 63 < bits → is_integer_value z ≡ true → int_le z (pos 9223372036854775807) ≡ int_lt z (past_signed bits)
below_signed zero z h v = absurd (omega arith)
below_signed (suc n) z h v = within_greatest z v ∙ sym (below_power n z (omega arith) v)

pub below_unsigned : (bits : ℕ) (z : ℤ) → 62 < bits → is_integer_value z ≡ true → int_le z (pos 9223372036854775807) ≡ int_lt z (pos (2 ^ bits))
below_unsigned bits z h v = within_greatest z v ∙ sym (below_power bits z (omega arith) v)
