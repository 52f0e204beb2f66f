-- Numbers among others.
use Rattle.std.specs.Prelude.{◌≡◌, refl, ℕ, Bool, true, false, ◌||◌, ◌==◌, List, [], ◌∷◌, ◌++◌}
use Rattle.std.proofs.Common.{ap, ◌∙◌}
use Rattle.core_form.specs.Facts.{has_number}

or_assoc : (a b c : Bool) → (a || (b || c)) ≡ ((a || b) || c)
or_assoc true b c = refl
or_assoc false b c = refl

pub has_append : (n : ℕ) (xs ys : List ℕ) → has_number n (xs ++ ys) ≡ (has_number n xs || has_number n ys)
has_append n [] ys = refl
has_append n (x ∷ xs) ys = ap (λ (b : Bool). n == x || b) (has_append n xs ys) ∙ or_assoc (n == x) (has_number n xs) (has_number n ys)
