-- The two parts of a list.
use Rattle.std.proofs.Common.{◌≡◌, ◌≤◌, ◌+◌, ◌-◌, Bool, true, false, List, [], ◌∷◌, length, take, if◌then◌else◌, refl, sym, ap, ◌∙◌, arith}
use Rattle.icr_graph.specs.Lists.{behind_by, up_to_by}

pub parts_length : {A : Type 0} (test : A → Bool) (xs : List A) → length (up_to_by test xs) + length (behind_by test xs) ≡ length xs
parts_length test [] = refl
parts_length {A} test (x ∷ xs) = by_case (test x) (parts_length test xs)
  where
    by_case : (b : Bool) → length (up_to_by test xs) + length (behind_by test xs) ≡ length xs → length (if b then x ∷ [] else x ∷ up_to_by test xs) + length (if b then xs else behind_by test xs) ≡ length (x ∷ xs)
    by_case true ih = omega arith
    by_case false ih = omega (arith, ih)

pub taken_up_to : {A : Type 0} (test : A → Bool) (xs : List A) → take (length (up_to_by test xs)) xs ≡ up_to_by test xs
taken_up_to test [] = refl
taken_up_to {A} test (x ∷ xs) = by_case (test x) (taken_up_to test xs)
  where
    by_case : (b : Bool) → take (length (up_to_by test xs)) xs ≡ up_to_by test xs → take (length (if b then x ∷ [] else x ∷ up_to_by test xs)) (x ∷ xs) ≡ (if b then x ∷ [] else x ∷ up_to_by test xs)
    by_case true ih = refl
    by_case false ih = ap (λ (ys : List A). x ∷ ys) ih

pub up_to_taken : {A : Type 0} (test : A → Bool) (xs : List A) → take (length xs - length (behind_by test xs)) xs ≡ up_to_by test xs
up_to_taken test xs =
    let kept : length xs - length (behind_by test xs) ≡ length (up_to_by test xs) = omega (arith, parts_length test xs) in
    rw kept (taken_up_to test xs)

pub behind_within : {A : Type 0} (test : A → Bool) (xs : List A) → length (behind_by test xs) ≤ length xs
behind_within test xs = omega (arith, parts_length test xs)
