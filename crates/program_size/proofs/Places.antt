-- Elements of a list by their places.
use Rattle.std.specs.Prelude.{◌≡◌, refl, ℕ, zero, suc, ◌<◌, true, List, [], ◌∷◌, ◌++◌, length, Contains, Some, is_some, slice_get, slice_index_or}
use Rattle.std.proofs.Common.{arith}

in_at : {A : Type 0} (xs : List A) (k : ℕ) (x : A) → slice_get xs k ≡ Some x → (k < length xs) × (slice_index_or xs k x ≡ x)
in_at [] k x e = cc
in_at (y ∷ ys) zero x e = (omega arith, cc)
in_at (y ∷ ys) (suc k) x e = let r = in_at ys k x e in (omega (arith, r.0), r.1)

pub contains_at : {A : Type 0} (xs : List A) (k : ℕ) (x : A) → slice_get xs k ≡ Some x → Contains xs x
contains_at xs k x e = let r = in_at xs k x e in (k, r.0, r.1)

pub get_at : {A : Type 0} (xs : List A) (k : ℕ) (x : A) → k < length xs → slice_index_or xs k x ≡ x → slice_get xs k ≡ Some x
get_at [] k x l e = absurd (omega (arith, l))
get_at (y ∷ ys) zero x l e = cc
get_at (y ∷ ys) (suc k) x l e = get_at ys k x (omega (arith, l)) e

pub at_contains : {A : Type 0} (xs : List A) (x : A) → Contains xs x → (k : ℕ) × (slice_get xs k ≡ Some x)
at_contains xs x h = (h.0, get_at xs h.0 x h.1 h.2)

pub get_below : {A : Type 0} (xs : List A) (k : ℕ) → is_some (slice_get xs k) ≡ true → k < length xs
get_below [] k e = cc
get_below (y ∷ ys) zero e = omega arith
get_below (y ∷ ys) (suc k) e = let r = get_below ys k e in omega (arith, r)

pub get_append : {A : Type 0} (xs ys : List A) (k : ℕ) → is_some (slice_get xs k) ≡ true → slice_get (xs ++ ys) k ≡ slice_get xs k
get_append [] ys k e = cc
get_append (x ∷ xs) ys zero e = refl
get_append (x ∷ xs) ys (suc k) e = get_append xs ys k e
