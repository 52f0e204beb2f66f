-- What is found under a number, in lists one behind another and in lists of other values.
use Rattle.std.specs.Prelude.{◌≡◌, refl, ℕ, Bool, true, false, if◌then◌else◌, ◌==◌, List, [], ◌∷◌, ◌++◌, map, flat_map, Option, Some, None, option_map}
use Rattle.std.specs.Option.{option_or}
use Rattle.std.proofs.Common.{ap, ◌∙◌, ◌⊎◌, inl, inr}
use Rattle.std.proofs.lemmas.List.{map-append}
use Rattle.core_form.specs.Facts.{lookup}

-- ---- one behind another

or_later : {A : Type 0} (b : Bool) (x : A) (o q r : Option A) → r ≡ option_or o q → (if b then Some x else r) ≡ option_or (if b then Some x else o) q
or_later true x o q r h = refl
or_later false x o q r h = h

pub lookup_append : {A : Type 0} (n : ℕ) (ds es : List (ℕ × A)) → lookup n (ds ++ es) ≡ option_or (lookup n ds) (lookup n es)
lookup_append n [] es = refl
lookup_append n (d ∷ ds) es = or_later (n == d.0) d.1 (lookup n ds) (lookup n es) (lookup n (ds ++ es)) (lookup_append n ds es)

pub either_found : {A : Type 0} (o q : Option A) (x : A) → option_or o q ≡ Some x → (o ≡ Some x) ⊎ (q ≡ Some x)
either_found None q x h = inr h
either_found (Some y) q x h = inl h

pub first_found : {A : Type 0} (b : Bool) (y : A) (q : Option A) (x : A) → (if b then Some y else q) ≡ Some x → (Some y ≡ Some x) ⊎ (q ≡ Some x)
first_found true y q x h = inl h
first_found false y q x h = inr h

-- ---- other values

-- the same numbers with other values
abbrev pub with_values : {A B : Type 0} → (A → B) → List (ℕ × A) → List (ℕ × B)
with_values f ds = map (λ d. (d.0, f d.1)) ds

map_or : {A B : Type 0} (f : A → B) (b : Bool) (x : A) (o : Option A) (q : Option B) → option_map f o ≡ q → option_map f (if b then Some x else o) ≡ (if b then Some (f x) else q)
map_or f true x o q h = refl
map_or f false x o q h = h

pub lookup_with : {A B : Type 0} (f : A → B) (n : ℕ) (ds : List (ℕ × A)) → option_map f (lookup n ds) ≡ lookup n (with_values f ds)
lookup_with f n [] = refl
lookup_with f n (d ∷ ds) = map_or f (n == d.0) d.1 (lookup n ds) (lookup n (with_values f ds)) (lookup_with f n ds)

pub with_values_flat : {A B C : Type 0} (f : A → B) (g : C → List (ℕ × A)) (xs : List C) → with_values f (flat_map g xs) ≡ flat_map (λ x. with_values f (g x)) xs
with_values_flat f g [] = refl
with_values_flat f g (x ∷ xs) =
    map-append (λ d. (d.0, f d.1)) (g x) (flat_map g xs) ∙ ap (λ ys. with_values f (g x) ++ ys) (with_values_flat f g xs)

-- ---- values put under numbers, the first of each

put_or : {A : Type 0} (o : Option A) (b : Bool) (v : A) (rest : Option A) → option_or (option_or o (if b then Some v else None)) rest ≡ option_or o (if b then Some v else rest)
put_or None true v rest = refl
put_or None false v rest = refl
put_or (Some x) b v rest = refl

-- what is there once a value is put, or else comes later, is what was there, or else comes
pub put_first : {A : Type 0} (n : ℕ) (d : ℕ × A) (ds : List (ℕ × A)) (old new : Option A) → new ≡ option_or old (if n == d.0 then Some d.1 else None) → option_or new (lookup n ds) ≡ option_or old (lookup n (d ∷ ds))
put_first n d ds old new h = ap (λ o. option_or o (lookup n ds)) h ∙ put_or old (n == d.0) d.1 (lookup n ds)
