-- Those of a list of which something is so, by a test.
use Rattle.std.specs.Prelude.{◌≡◌, refl, Bool, true, false, cond, List, [], ◌∷◌, filter}
use Rattle.std.proofs.Common.{ap, sym}
use Rattle.program_size.specs.Sizes.{Chosen, none, taken, passed}

-- a test that tells of which elements P is so
pub record Tells {A : Type 0} (P : A → Type 0) (t : A → Bool) : Type 0 where
  pub yes : (x : A) → t x ≡ true → P x
  pub all : (x : A) → P x → t x ≡ true

chosen_by : {A : Type 0} (P : A → Type 0) (t : A → Bool) → Tells P t → (x : A) (xs ys : List A) (b : Bool) → b ≡ t x → Chosen P xs ys → Chosen P (x ∷ xs) (cond b (x ∷ ys) ys)
chosen_by P t h x xs ys true e k = taken x xs ys (h.yes x (sym e)) k
chosen_by P t h x xs ys false e k = passed x xs ys (λ p. let q = h.all x p in cc) k

pub chosen : {A : Type 0} (P : A → Type 0) (t : A → Bool) → Tells P t → (xs : List A) → Chosen P xs (filter t xs)
chosen P t h [] = none
chosen P t h (x ∷ xs) = chosen_by P t h x xs (filter t xs) (t x) refl (chosen P t h xs)

with_one : {A : Type 0} (b : Bool) (x : A) (ys zs : List A) → b ≡ true → ys ≡ zs → x ∷ ys ≡ cond b (x ∷ zs) zs
with_one true x ys zs e h = ap (λ k. x ∷ k) h
with_one false x ys zs e h = cc

without_one : {A : Type 0} (b : Bool) (x : A) (ys zs : List A) → (b ≡ true → ⊥) → ys ≡ zs → ys ≡ cond b (x ∷ zs) zs
without_one true x ys zs e h = absurd (e refl)
without_one false x ys zs e h = h

pub chosen_is : {A : Type 0} (P : A → Type 0) (t : A → Bool) → Tells P t → (xs ys : List A) → Chosen P xs ys → ys ≡ filter t xs
chosen_is P t h _ _ none = refl
chosen_is P t h _ _ (taken x xs ys p k) = with_one (t x) x ys (filter t xs) (h.all x p) (chosen_is P t h xs ys k)
chosen_is P t h _ _ (passed x xs ys n k) = without_one (t x) x ys (filter t xs) (λ e. n (h.yes x e)) (chosen_is P t h xs ys k)
