-- Powers of two as numbers of bits.
use Rattle.std.proofs.Common.{◌≡◌, ℕ, zero, suc, ◌*◌, ◌-◌, ◌%◌, ◌^◌, ◌<◌, ◌≤◌, ℤ, pos, negsuc, ◌-ℤ◌, true, false, arith, ap, ◌∙◌}
use Rattle.std.proofs.lemmas.Nat.{pow_below, pow_pos}
use Rattle.std.proofs.lemmas.Bool.{and_parts, leb-true}
use Rattle.std.proofs.lemmas.Int.{ints}
use Rattle.lisp_base.specs.declared.values.Val.{Val}
use Rattle.lisp_base.specs.declared.types.Bound.TheVariants as bound
use Rattle.lisp_base.specs.Lawful.{is_width}
use Rattle.lisp_base.specs.Membership.{in_range, is_signed}

pub width_is : (bits : ℕ) → is_width bits ≡ true → (1 ≤ bits) × (bits ≤ 127)
width_is bits h = let k = and_parts _ _ h in (leb-true 1 bits k.0, leb-true bits 127 k.1)

pub small_power : (bits : ℕ) → is_width bits ≡ true → 2 ^ (bits - 1) < 2 ^ 127
small_power bits h = let k = width_is bits h in pow_below (bits - 1) 127 (omega arith)

opposite : (m : ℕ) → 0 < m → (pos 0 -ℤ pos m) ≡ negsuc (m - 1)
opposite m h = omega (arith, ints)

pub signed_range : (bits : ℕ) (half : ℤ) (v : Val) → is_width bits ≡ true → half ≡ pos (2 ^ (bits - 1)) → in_range (bound.At (pos 0 -ℤ half)) (bound.Past half) v ≡ is_signed bits v
signed_range zero half v h e = absurd (differ h)
  where
    differ : false ≡ true → ⊥
    differ k = cc
signed_range (suc n) half v h e =
    ap (λ (z : ℤ). in_range (bound.At (pos 0 -ℤ z)) (bound.Past z) v) (e ∙ ap (λ (k : ℕ). pos (2 ^ k)) less) ∙
    ap (λ (z : ℤ). in_range (bound.At z) (bound.Past (pos (2 ^ n))) v) (opposite (2 ^ n) (pow_pos n))
  where
    less : suc n - 1 ≡ n
    less = omega arith

pub whole : (m : ℕ) → m < 2 ^ 127 → 1 * m % 340282366920938463463374607431768211456 ≡ m
whole m h = omega arith
