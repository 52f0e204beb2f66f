-- Tests of order on integers.
use Rattle.std.proofs.Common.{◌≡◌, ℤ, true, false, int_lt, int_le, arith}
use Rattle.std.proofs.lemmas.Int.{ints}

pub lt_trans : (a b c : ℤ) → int_lt a b ≡ true → int_lt b c ≡ true → int_lt a c ≡ true
lt_trans a b c p q = grind (arith, ints)

pub lt_le_trans : (a b c : ℤ) → int_lt a b ≡ true → int_le b c ≡ true → int_lt a c ≡ true
lt_le_trans a b c p q = grind (arith, ints)

pub le_lt_trans : (a b c : ℤ) → int_le a b ≡ true → int_lt b c ≡ true → int_lt a c ≡ true
le_lt_trans a b c p q = grind (arith, ints)

pub le_refl : (a : ℤ) → int_le a a ≡ true
le_refl a = grind (arith, ints)

pub not_le : (a b : ℤ) → int_le a b ≡ false → int_lt b a ≡ true
not_le a b p = grind (arith, ints)

pub not_lt : (a b : ℤ) → int_lt a b ≡ false → int_le b a ≡ true
not_lt a b p = grind (arith, ints)

pub le_antisym : (a b : ℤ) → int_le a b ≡ true → int_le b a ≡ true → a ≡ b
le_antisym a b p q = grind (arith, ints)

pub lt_irrefl : (a : ℤ) → int_lt a a ≡ false
lt_irrefl a = grind (arith, ints)

pub le_of : (a b : ℤ) → int_lt a b ≡ true → int_le a b ≡ true
le_of a b p = grind (arith, ints)

pub not_below : (c z : ℤ) → int_le c z ≡ true → int_lt z c ≡ false
not_below c z h = grind (arith, ints)

pub le_trans_lt : (c d z : ℤ) → int_lt c d ≡ true → int_le d z ≡ true → int_le c z ≡ true
le_trans_lt c d z h k = grind (arith, ints)
