-- The numbers that stand in a map after one entry is changed.
use Rattle.std.proofs.Common.{◌≡◌, ◌≢◌, ◌⊎◌, ℕ, Bool, true, false, not, ◌&&◌, ◌||◌, ◌==◌, List, [], ◌∷◌, ◌++◌, Option, Some, None, option_map, is_some, if◌then◌else◌, refl, sym, ap, ◌∙◌, inl, inr, eq-eqb, ne_eqb}
use Rattle.std.proofs.Math.Path.{fun_ext}
use Rattle.std.proofs.lemmas.Bool.{cases_eq}
use Rattle.std.proofs.lemmas.List.Folds.{list_any-append}
use Rattle.icr_graph.specs.Lists.{has_number, without, numbers_of, changed}

-- ---- tests of numbers

pub same_number : (n : ℕ) → (n == n) ≡ true
same_number n = eq-eqb n n refl

pub swapped : (a b : ℕ) → (a == b) ≡ (b == a)
swapped a b = elim (cases_eq a b) [ inl same ↦ rw same refl | inr other ↦ rw (ne_eqb a b other, ne_eqb b a (λ e. other (sym e))) refl ]

pub or_false : (b : Bool) → (b || false) ≡ b
or_false true = refl
or_false false = refl

pub or_comm : (a b : Bool) → (a || b) ≡ (b || a)
or_comm true true = refl
or_comm true false = refl
or_comm false true = refl
or_comm false false = refl

pub and_comm : (a b : Bool) → (a && b) ≡ (b && a)
and_comm true true = refl
and_comm true false = refl
and_comm false true = refl
and_comm false false = refl

pub and_true : (b : Bool) → (b && true) ≡ b
and_true true = refl
and_true false = refl

pub and_false : (b : Bool) → (b && false) ≡ false
and_false true = refl
and_false false = refl

-- ---- lists

pub has_pushed : (c y : ℕ) (xs : List ℕ) → has_number c (xs ++ y ∷ []) ≡ (has_number c xs || (y == c))
has_pushed c y xs = list_any-append (λ m. m == c) xs (y ∷ []) ∙ ap (λ b. has_number c xs || b) (or_false (y == c))

without_here : (c y : ℕ) (xs : List ℕ) → has_number c (without y xs) ≡ (has_number c xs && not (c == y)) → has_number c (without y (y ∷ xs)) ≡ (has_number c (y ∷ xs) && not (c == y))
without_here c y xs ih = rw (same_number y, ih, swapped y c) (alike (c == y) (has_number c xs))
  where
    alike : (t h : Bool) → (h && not t) ≡ ((t || h) && not t)
    alike true h = and_false h
    alike false h = refl

without_there : (c y x : ℕ) (xs : List ℕ) → x ≢ y → has_number c (without y xs) ≡ (has_number c xs && not (c == y)) → has_number c (without y (x ∷ xs)) ≡ (has_number c (x ∷ xs) && not (c == y))
without_there c y x xs other ih = rw (ne_eqb x y other, ih) (apart (cases_eq x c))
  where
    apart : (x ≡ c) ⊎ (x ≢ c) → ((x == c) || (has_number c xs && not (c == y))) ≡ (((x == c) || has_number c xs) && not (c == y))
    apart (inl is) = rw (← is, same_number x, ne_eqb x y other) refl
    apart (inr is_not) = rw (ne_eqb x c is_not) refl

pub has_without : (c y : ℕ) (xs : List ℕ) → has_number c (without y xs) ≡ (has_number c xs && not (c == y))
has_without c y [] = refl
has_without c y (x ∷ xs) = by_case (cases_eq x y) (has_without c y xs)
  where
    by_case : (x ≡ y) ⊎ (x ≢ y) → has_number c (without y xs) ≡ (has_number c xs && not (c == y)) → has_number c (without y (x ∷ xs)) ≡ (has_number c (x ∷ xs) && not (c == y))
    by_case (inl same) ih = rw same (without_here c y xs ih)
    by_case (inr other) ih = without_there c y x xs other ih

-- ---- maps

module _ {A : Type 0} (p : A → List ℕ) (F : A → A) (at : ℕ) (m : ℕ → Option A) where
  -- what is read stays
  pub kept : ((v : A) → p (F v) ≡ p v) → (n : ℕ) → numbers_of p (changed F at m n) ≡ numbers_of p (m n)
  kept same n = by_case (n == at) (m n)
    where
      by_case : (b : Bool) (o : Option A) → numbers_of p (if b then option_map F o else o) ≡ numbers_of p o
      by_case true None = refl
      by_case true (Some v) = same v
      by_case false o = refl

  -- a number more
  pub pushed : (y : ℕ) → ((v : A) → p (F v) ≡ p v ++ y ∷ []) → is_some (m at) ≡ true → (n c : ℕ) → has_number c (numbers_of p (changed F at m n)) ≡ (has_number c (numbers_of p (m n)) || ((n == at) && (y == c)))
  pushed y push live n c = by_case (cases_eq n at)
    where
      there : (o : Option A) → is_some o ≡ true → has_number c (numbers_of p (option_map F o)) ≡ (has_number c (numbers_of p o) || (y == c))
      there None h = cc
      there (Some v) h = rw (push v) (has_pushed c y (p v))

      by_case : (n ≡ at) ⊎ (n ≢ at) → has_number c (numbers_of p (changed F at m n)) ≡ (has_number c (numbers_of p (m n)) || ((n == at) && (y == c)))
      by_case (inl same) = rw (same, same_number at) (there (m at) live)
      by_case (inr other) = rw (ne_eqb n at other) (sym (or_false (has_number c (numbers_of p (m n)))))

  -- a number less
  pub dropped : (y : ℕ) → ((v : A) → p (F v) ≡ without y (p v)) → (n c : ℕ) → has_number c (numbers_of p (changed F at m n)) ≡ (has_number c (numbers_of p (m n)) && not ((n == at) && (c == y)))
  dropped y drop n c = by_case (n == at) (m n)
    where
      by_case : (b : Bool) (o : Option A) → has_number c (numbers_of p (if b then option_map F o else o)) ≡ (has_number c (numbers_of p o) && not (b && (c == y)))
      by_case true None = refl
      by_case true (Some v) = rw (drop v) (has_without c y (p v))
      by_case false o = sym (and_true (has_number c (numbers_of p o)))

  -- what is there stays there
  pub still_there : (n : ℕ) → is_some (changed F at m n) ≡ is_some (m n)
  still_there n = by_case (n == at) (m n)
    where
      by_case : (b : Bool) (o : Option A) → is_some (if b then option_map F o else o) ≡ is_some o
      by_case true None = refl
      by_case true (Some v) = refl
      by_case false o = refl

module _ {A : Type 0} (F G : A → A) (at : ℕ) (m : ℕ → Option A) where
  -- a change that is taken back
  pub taken_back : ((v : A) → G (F v) ≡ v) → changed G at (changed F at m) ≡ m
  taken_back back = fun_ext (λ n. by_case (n == at) (m n))
    where
      by_case : (b : Bool) (o : Option A) → (if b then option_map G (if b then option_map F o else o) else (if b then option_map F o else o)) ≡ o
      by_case true None = refl
      by_case true (Some v) = ap Some (back v)
      by_case false o = refl
