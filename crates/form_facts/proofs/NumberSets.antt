-- What std says of sets and counts, in the words of a form's facts.
use Rattle.std.specs.Prelude.{◌≡◌, refl, ℕ, Bool, true, false, ◌||◌, ◌==◌, if◌then◌else◌, List, [], ◌∷◌, ◌++◌, length, filter, count_by, nat_eq}
use Rattle.std.specs.List.{list_any}
use Rattle.std.proofs.Common.{ap, sym, ◌∙◌, cond}
use Rattle.std.proofs.lemmas.Bool.{eqb-true, eq-eqb}
use Rattle.std.proofs.lemmas.List.Sums.{length-filter}
use Rattle.indexmap.specs.IndexSet.{insert_key}
use Rattle.core_form.specs.Facts.{has_number, union, times_in}

pub any_is : (n : ℕ) (xs : List ℕ) → list_any (nat_eq n) xs ≡ has_number n xs
any_is n [] = refl
any_is n (x ∷ xs) = ap (λ (b : Bool). n == x || b) (any_is n xs)

pub add_is : (xs : List ℕ) (n : ℕ) → insert_key nat_eq xs n ≡ union xs (n ∷ [])
add_is xs n = ap (λ (b : Bool). if b then xs else xs ++ n ∷ []) (any_is n xs)

-- ---- counts

same_test : (a b : ℕ) (c d : Bool) → (a == b) ≡ c → (b == a) ≡ d → c ≡ d
same_test a b true true p q = refl
same_test a b true false p q = sym (eq-eqb b a (sym (eqb-true a b p))) ∙ q
same_test a b false true p q = sym p ∙ eq-eqb a b (sym (eqb-true b a q))
same_test a b false false p q = refl

pub swapped : (a b : ℕ) → (a == b) ≡ (b == a)
swapped a b = same_test a b (a == b) (b == a) refl refl

pub filter_or : (b c : Bool) (x : ℕ) (xs ys : List ℕ) → b ≡ c → xs ≡ ys → cond b (x ∷ xs) xs ≡ cond c (x ∷ ys) ys
filter_or b c x xs ys h k = ap (λ (d : Bool). cond d (x ∷ xs) xs) h ∙ ap (λ (zs : List ℕ). cond c (x ∷ zs) zs) k

pub filter_same : (p q : ℕ → Bool) → ((n : ℕ) → p n ≡ q n) → (xs : List ℕ) → filter p xs ≡ filter q xs
filter_same p q h [] = refl
filter_same p q h (x ∷ xs) = filter_or (p x) (q x) x (filter p xs) (filter q xs) (h x) (filter_same p q h xs)

pub counted_times : (n : ℕ) (xs : List ℕ) → count_by (λ x. x == n) xs ≡ times_in n xs
counted_times n xs =
    sym (length-filter (λ x. x == n) xs) ∙ ap length (filter_same (λ x. x == n) (λ x. n == x) (λ x. swapped x n) xs)
