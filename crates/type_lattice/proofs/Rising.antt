-- Rising lists of borders.
use Rattle.std.proofs.Common.{◌≡◌, ℤ, true, int_lt, List, [], ◌∷◌, ◌++◌, refl}
use Rattle.std.proofs.lemmas.Bool.{and_parts, and_from}
use Rattle.type_lattice.specs.Borders.{is_before, is_rising}
use Rattle.type_lattice.proofs.Order.{lt_trans}

-- what is below the first of a rising list is below the second
pub before_tail : (m c : ℤ) (ys : List ℤ) → int_lt m c ≡ true → is_before c ys ≡ true → is_before m ys ≡ true
before_tail m c [] p q = refl
before_tail m c (y ∷ ys) p q = lt_trans m c y p q

before_middle : (m c : ℤ) (xs ys : List ℤ) → is_before m (xs ++ c ∷ ys) ≡ true → is_before c ys ≡ true → is_before m (xs ++ ys) ≡ true
before_middle m c [] ys p q = before_tail m c ys p q
before_middle m c (x ∷ xs) ys p q = p

-- a border can be left out
pub rising_without : (xs : List ℤ) (c : ℤ) (ys : List ℤ) → is_rising (xs ++ c ∷ ys) ≡ true → is_rising (xs ++ ys) ≡ true
rising_without [] c ys h = (and_parts _ _ h).1
rising_without (x ∷ xs) c ys h =
    let k = and_parts (is_before x (xs ++ c ∷ ys)) (is_rising (xs ++ c ∷ ys)) h in
    and_from _ _ (before_middle x c xs ys k.0 (before_rest xs c ys k.1)) (rising_without xs c ys k.1)
  where
    before_rest : (us : List ℤ) (d : ℤ) (vs : List ℤ) → is_rising (us ++ d ∷ vs) ≡ true → is_before d vs ≡ true
    before_rest [] d vs r = (and_parts (is_before d vs) (is_rising vs) r).0
    before_rest (u ∷ us) d vs r = before_rest us d vs (and_parts (is_before u (us ++ d ∷ vs)) (is_rising (us ++ d ∷ vs)) r).1

-- the first part rises
before_first : (m c : ℤ) (xs ys : List ℤ) → is_before m (xs ++ c ∷ ys) ≡ true → is_before m (xs ++ c ∷ []) ≡ true
before_first m c [] ys p = p
before_first m c (x ∷ xs) ys p = p

pub rising_first : (xs : List ℤ) (c : ℤ) (ys : List ℤ) → is_rising (xs ++ c ∷ ys) ≡ true → is_rising (xs ++ c ∷ []) ≡ true
rising_first [] c ys h = refl
rising_first (x ∷ xs) c ys h =
    let k = and_parts (is_before x (xs ++ c ∷ ys)) (is_rising (xs ++ c ∷ ys)) h in
    and_from _ _ (before_first x c xs ys k.0) (rising_first xs c ys k.1)

before_longer : (m c : ℤ) (xs ys : List ℤ) → is_before m (xs ++ c ∷ []) ≡ true → is_before m (xs ++ c ∷ ys) ≡ true
before_longer m c [] ys p = p
before_longer m c (x ∷ xs) ys p = p

-- and can go on above its last
pub rising_longer : (xs : List ℤ) (c : ℤ) (ys : List ℤ) → is_rising (xs ++ c ∷ []) ≡ true → is_before c ys ≡ true → is_rising ys ≡ true → is_rising (xs ++ c ∷ ys) ≡ true
rising_longer [] c ys h b r = and_from _ _ b r
rising_longer (x ∷ xs) c ys h b r =
    let k = and_parts (is_before x (xs ++ c ∷ [])) (is_rising (xs ++ c ∷ [])) h in
    and_from _ _ (before_longer x c xs ys k.0) (rising_longer xs c ys k.1 b r)

-- the rest rises
pub rising_rest : (xs ys : List ℤ) → is_rising (xs ++ ys) ≡ true → is_rising ys ≡ true
rising_rest [] ys h = h
rising_rest (x ∷ xs) ys h = rising_rest xs ys (and_parts (is_before x (xs ++ ys)) (is_rising (xs ++ ys)) h).1
