-- Lists in which no number stands twice.
use Rattle.std.proofs.Common.{◌≡◌, ◌≢◌, ◌⊎◌, ℕ, Bool, true, false, not, ◌&&◌, ◌||◌, ◌==◌, List, [], ◌∷◌, ◌++◌, if◌then◌else◌, refl, sym, ap, ◌∙◌, inl, inr, eq-eqb, ne_eqb}
use Rattle.std.proofs.lemmas.Bool.{cases_eq}
use Rattle.std.proofs.lemmas.List.Folds.{list_any-append}
use Rattle.icr_graph.specs.Lists.{has_number, without, are_distinct, behind, up_to}
use Rattle.icr_graph.proofs.Maps.{same_number, swapped, or_false, and_false, and_true, has_pushed, has_without}

-- a conjunction that holds
pub both_hold : (a b : Bool) → (a && b) ≡ true → (a ≡ true) × (b ≡ true)
both_hold true b h = (refl, h)
both_hold false b h = cc

pub not_true : (a : Bool) → not a ≡ true → a ≡ false
not_true true h = cc
not_true false h = refl

pub without_distinct : (n : ℕ) (xs : List ℕ) → are_distinct xs ≡ true → are_distinct (without n xs) ≡ true
without_distinct n [] h = refl
without_distinct n (x ∷ xs) h = by_case (x == n) (without_distinct n xs (both_hold (not (has_number x xs)) (are_distinct xs) h).1)
  where
    new : has_number x (without n xs) ≡ false
    new = has_without x n xs ∙ ap (λ (t : Bool). t && not (x == n)) (not_true (has_number x xs) (both_hold (not (has_number x xs)) (are_distinct xs) h).0)

    by_case : (b : Bool) → are_distinct (without n xs) ≡ true → are_distinct (if not b then x ∷ without n xs else without n xs) ≡ true
    by_case true ih = ih
    by_case false ih = rw new ih

or_true : (b : Bool) → (b || true) ≡ true
or_true true = refl
or_true false = refl

-- what a part of a list has, the list has
pub within_behind : (n c : ℕ) (xs : List ℕ) → has_number c (behind n xs) ≡ true → has_number c xs ≡ true
within_behind n c [] e = cc
within_behind n c (y ∷ ys) e = step (y == n) e (within_behind n c ys)
  where
    step : (b : Bool) → has_number c (if b then ys else behind n ys) ≡ true → (has_number c (behind n ys) ≡ true → has_number c ys ≡ true) → ((y == c) || has_number c ys) ≡ true
    step true e ih = rw e (or_true (y == c))
    step false e ih = rw (ih e) (or_true (y == c))

-- what stands up to a number and what stands behind it are all, and in no place both
pub has_up_to : (n c : ℕ) (xs : List ℕ) → are_distinct xs ≡ true → has_number c (up_to n xs) ≡ (has_number c xs && not (has_number c (behind n xs)))
has_up_to n c [] h = refl
has_up_to n c (x ∷ xs) h = by_case (x == n) (has_up_to n c xs (both_hold (not (has_number x xs)) (are_distinct xs) h).1)
  where
    new : has_number x xs ≡ false
    new = not_true (has_number x xs) (both_hold (not (has_number x xs)) (are_distinct xs) h).0

    here : (x ≡ c) ⊎ (x ≢ c) → ((x == c) || false) ≡ (((x == c) || has_number c xs) && not (has_number c xs))
    here (inl is) = rw (← is, same_number x, new) refl
    here (inr is_not) = rw (ne_eqb x c is_not) (never (has_number c xs))
      where
        never : (b : Bool) → false ≡ (b && not b)
        never true = refl
        never false = refl

    there : (x ≡ c) ⊎ (x ≢ c) → (b : Bool) → has_number c (behind n xs) ≡ b → has_number c (up_to n xs) ≡ (has_number c xs && not b) → ((x == c) || has_number c (up_to n xs)) ≡ (((x == c) || has_number c xs) && not b)
    there (inl is) true at ih = absurd_of (sym new ∙ (ap (λ (m : ℕ). has_number m xs) is ∙ within_behind n c xs at))
      where
        absurd_of : false ≡ true → ((x == c) || has_number c (up_to n xs)) ≡ (((x == c) || has_number c xs) && false)
        absurd_of e = cc
    there (inl is) false at ih = rw (is, same_number c) refl
    there (inr is_not) b at ih = rw (ne_eqb x c is_not) ih

    by_case : (b : Bool) → has_number c (up_to n xs) ≡ (has_number c xs && not (has_number c (behind n xs))) → has_number c (if b then x ∷ [] else x ∷ up_to n xs) ≡ (((x == c) || has_number c xs) && not (has_number c (if b then xs else behind n xs)))
    by_case true ih = here (cases_eq x c)
    by_case false ih = there (cases_eq x c) (has_number c (behind n xs)) refl ih

pub behind_distinct : (n : ℕ) (xs : List ℕ) → are_distinct xs ≡ true → are_distinct (behind n xs) ≡ true
behind_distinct n [] h = refl
behind_distinct n (x ∷ xs) h = by_case (x == n) (behind_distinct n xs rest)
  where
    rest : are_distinct xs ≡ true
    rest = (both_hold (not (has_number x xs)) (are_distinct xs) h).1

    by_case : (b : Bool) → are_distinct (behind n xs) ≡ true → are_distinct (if b then xs else behind n xs) ≡ true
    by_case true ih = rest
    by_case false ih = ih

pub up_to_distinct : (n : ℕ) (xs : List ℕ) → are_distinct xs ≡ true → are_distinct (up_to n xs) ≡ true
up_to_distinct n [] h = refl
up_to_distinct n (x ∷ xs) h = by_case (x == n) (up_to_distinct n xs rest)
  where
    rest : are_distinct xs ≡ true
    rest = (both_hold (not (has_number x xs)) (are_distinct xs) h).1

    new : has_number x (up_to n xs) ≡ false
    new = has_up_to n x xs rest ∙ ap (λ (t : Bool). t && not (has_number x (behind n xs))) (not_true (has_number x xs) (both_hold (not (has_number x xs)) (are_distinct xs) h).0)

    by_case : (b : Bool) → are_distinct (up_to n xs) ≡ true → are_distinct (if b then x ∷ [] else x ∷ up_to n xs) ≡ true
    by_case true ih = refl
    by_case false ih = rw new ih

pub append_distinct : (xs ys : List ℕ) → are_distinct xs ≡ true → are_distinct ys ≡ true → ((c : ℕ) → has_number c xs ≡ true → has_number c ys ≡ false) → are_distinct (xs ++ ys) ≡ true
append_distinct [] ys hx hy apart = hy
append_distinct (x ∷ xs) ys hx hy apart =
    let parts = both_hold (not (has_number x xs)) (are_distinct xs) hx in
    let ih : are_distinct (xs ++ ys) ≡ true = append_distinct xs ys parts.1 hy (λ c e. apart c (rw e (or_true (x == c)))) in
    let new : has_number x (xs ++ ys) ≡ false = list_any-append (λ m. m == x) xs ys ∙ rw (not_true (has_number x xs) parts.0) (apart x (rw (same_number x) refl)) in
    rw new ih

pub neither : (a b : Bool) → (a || b) ≡ false → (a ≡ false) × (b ≡ false)
neither false b h = (refl, h)
neither true b h = cc

-- a new number at the end
pub pushed_distinct : (n : ℕ) (xs : List ℕ) → are_distinct xs ≡ true → has_number n xs ≡ false → are_distinct (xs ++ n ∷ []) ≡ true
pushed_distinct n [] h absent = refl
pushed_distinct n (x ∷ xs) h absent =
    let parts = both_hold (not (has_number x xs)) (are_distinct xs) h in
    let apart = neither (x == n) (has_number n xs) absent in
    let new : has_number x (xs ++ n ∷ []) ≡ false = has_pushed x n xs ∙ rw (not_true (has_number x xs) parts.0) (swapped n x ∙ apart.0) in
    rw new (pushed_distinct n xs parts.1 apart.1)
