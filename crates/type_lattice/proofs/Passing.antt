-- One step of a walk: what a border that is reached says of the numbers below it and from it on.
use Rattle.std.proofs.Common.{◌≡◌, ◌⊎◌, ℤ, Bool, true, false, not, cond, int_lt, int_le, List, [], ◌∷◌, ◌++◌, Some, refl, sym, ap, subst, inl, inr}
use Rattle.std.specs.List.{list_all}
use Rattle.std.proofs.lemmas.Bool.{and_parts, cond-true}
use Rattle.type_lattice.specs.Borders.{is_within, is_before, is_rising}
use Rattle.type_lattice.specs.Walks.{next_border, inside_from, left_from}
use Rattle.type_lattice.proofs.Order.{le_refl, le_antisym, le_of, not_le, lt_trans}
use Rattle.type_lattice.proofs.Rising.{rising_without}

-- no border of these is below a number
abbrev pub is_from : ℤ → List ℤ → Bool
is_from z [] = true
is_from z (b ∷ bs) = int_le z b

-- what the next border is to two walks
pub record Next (c : ℤ) (bs cs : List ℤ) : Type 0 where
  pub first : is_from c bs ≡ true
  pub second : is_from c cs ≡ true
  pub source : (bs ≡ c ∷ left_from bs c) ⊎ (cs ≡ c ∷ left_from cs c)

some_is : (b c : ℤ) → Some b ≡ Some c → b ≡ c
some_is b c e = cc

takes : (b : ℤ) (bs : List ℤ) → b ∷ bs ≡ b ∷ left_from (b ∷ bs) b
takes b bs = ap (λ (x : List ℤ). b ∷ x) (sym (cond-true (int_le b b) bs (b ∷ bs) (le_refl b)))

pub next_is : (bs cs : List ℤ) (c : ℤ) → next_border bs cs ≡ Some c → Next c bs cs
next_is [] [] c e = cc
next_is [] (d ∷ cs) c e =
    subst (λ (x : ℤ). Next x [] (d ∷ cs)) (some_is d c e) (record { first = refl; second = le_refl d; source = inr (takes d cs) })
next_is (b ∷ bs) [] c e =
    subst (λ (x : ℤ). Next x (b ∷ bs) []) (some_is b c e) (record { first = le_refl b; second = refl; source = inl (takes b bs) })
next_is (b ∷ bs) (d ∷ cs) c e =
    subst (λ (x : ℤ). Next x (b ∷ bs) (d ∷ cs)) (some_is (cond (int_le b d) b d) c e) (least (int_le b d) refl)
  where
    least : (t : Bool) → int_le b d ≡ t → Next (cond t b d) (b ∷ bs) (d ∷ cs)
    least true h = record { first = le_refl b; second = h; source = inl (takes b bs) }
    least false h = record { first = le_of d b (not_le b d h); second = le_refl d; source = inr (takes d cs) }

pub before_left : (bs : List ℤ) (c : ℤ) → is_from c bs ≡ true → is_rising bs ≡ true → is_before c (left_from bs c) ≡ true
before_left [] c f r = refl
before_left (b ∷ bs) c f r = at (int_le b c) refl
  where
    at : (t : Bool) → int_le b c ≡ t → is_before c (cond t bs (b ∷ bs)) ≡ true
    at true h = subst (λ (x : ℤ). is_before x bs ≡ true) (le_antisym b c h f) (and_parts (is_before b bs) (is_rising bs) r).0
    at false h = not_le b c h

pub rising_left : (bs : List ℤ) (c : ℤ) → is_rising bs ≡ true → is_rising (left_from bs c) ≡ true
rising_left [] c r = refl
rising_left (b ∷ bs) c r = at (int_le b c)
  where
    at : (t : Bool) → is_rising (cond t bs (b ∷ bs)) ≡ true
    at true = (and_parts (is_before b bs) (is_rising bs) r).1
    at false = r

-- borders that are behind keep rising when the walk goes on
pub rising_behind : (out bs : List ℤ) (c : ℤ) → is_rising (out ++ bs) ≡ true → is_rising (out ++ left_from bs c) ≡ true
rising_behind out [] c r = r
rising_behind out (b ∷ bs) c r = at (int_le b c)
  where
    at : (t : Bool) → is_rising (out ++ cond t bs (b ∷ bs)) ≡ true
    at true = rising_without out b bs r
    at false = r

pub all_left : (t : ℤ → Bool) (bs : List ℤ) (c : ℤ) → list_all t bs ≡ true → list_all t (left_from bs c) ≡ true
all_left t [] c r = refl
all_left t (b ∷ bs) c r = at (int_le b c)
  where
    at : (u : Bool) → list_all t (cond u bs (b ∷ bs)) ≡ true
    at true = (and_parts (t b) (list_all t bs) r).1
    at false = r

-- below the next border nothing changes
pub within_at : (inside : Bool) (bs : List ℤ) (z : ℤ) → is_before z bs ≡ true → is_within inside bs z ≡ inside
within_at inside [] z f = refl
within_at inside (b ∷ bs) z f = cond-true (int_lt z b) _ _ f

pub within_before : (inside : Bool) (bs : List ℤ) (c z : ℤ) → is_before c bs ≡ true → int_lt z c ≡ true → is_within inside bs z ≡ inside
within_before inside [] c z f h = refl
within_before inside (b ∷ bs) c z f h = cond-true (int_lt z b) _ _ (lt_trans z c b h f)

cond_same : {A : Type 0} (t : Bool) (x : A) → cond t x x ≡ x
cond_same true x = refl
cond_same false x = refl

cond_twice : (s t : Bool) (x y : Bool) → (s ≡ true → t ≡ true) → cond t x y ≡ cond s x (cond t x y)
cond_twice true t x y h = cond-true t x y (h refl)
cond_twice false t x y h = refl

-- what a set holds, told from the next border
pub passes : (inside : Bool) (bs : List ℤ) (c z : ℤ) → is_from c bs ≡ true →
    is_within inside bs z ≡ cond (int_lt z c) inside (is_within (inside_from inside bs c) (left_from bs c) z)
passes inside [] c z f = sym (cond_same (int_lt z c) inside)
passes inside (b ∷ bs) c z f = at (int_le b c) refl
  where
    at : (t : Bool) → int_le b c ≡ t →
        cond (int_lt z b) inside (is_within (not inside) bs z) ≡ cond (int_lt z c) inside (is_within (cond t (not inside) inside) (cond t bs (b ∷ bs)) z)
    at true h =
        ap (λ (x : ℤ). cond (int_lt z x) inside (is_within (not inside) bs z)) (le_antisym b c h f)
    at false h = cond_twice (int_lt z c) (int_lt z b) inside (is_within (not inside) bs z) (λ k. lt_trans z c b k (not_le b c h))

-- the opposite set has the same borders
pub opposite_is : (below : Bool) (bs : List ℤ) (z : ℤ) → is_within (not below) bs z ≡ not (is_within below bs z)
opposite_is below [] z = refl
opposite_is below (b ∷ bs) z = at (int_lt z b) (opposite_is (not below) bs z)
  where
    at : (t : Bool) → is_within (not (not below)) bs z ≡ not (is_within (not below) bs z) → cond t (not below) (is_within (not (not below)) bs z) ≡ not (cond t below (is_within (not below) bs z))
    at true h = refl
    at false h = h
