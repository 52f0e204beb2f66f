-- What a map or set has under a number is what its list has there.
use Rattle.std.specs.Prelude.{◌≡◌, refl, ℕ, nat_eq, ◌||◌, if◌then◌else◌, ◌==◌, List, [], ◌∷◌, Some}
use Rattle.std.specs.List.{list_any}
use Rattle.std.specs.Map.{lookup as found}
use Rattle.std.proofs.Common.{ap}
use Rattle.core_form.specs.Facts.{has_number, lookup}

pub found_same : {A : Type 0} (n : ℕ) (es : List (ℕ × A)) → lookup n es ≡ found (nat_eq n) es
found_same n [] = refl
found_same n (e ∷ es) = ap (λ o. if n == e.0 then Some e.1 else o) (found_same n es)

pub has_same : (n : ℕ) (ns : List ℕ) → has_number n ns ≡ list_any (nat_eq n) ns
has_same n [] = refl
has_same n (m ∷ ms) = ap (λ b. n == m || b) (has_same n ms)
