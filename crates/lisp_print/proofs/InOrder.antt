-- Letters that are read one after another, and the text of those at the front.
use Rattle.std.proofs.Common.{◌≡◌, ℕ, zero, suc, ◌+◌, ◌<◌, ◌≤◌, ◌==◌, ◌&&◌, Bool, List, [], ◌∷◌, ◌++◌, length, take, if◌then◌else◌, Some, None, inl, inr, refl, ap, ◌∙◌, arith, add-zero}
use Rattle.std.proofs.lemmas.Bool.Decides.{leb_tells}
use Rattle.std.proofs.lemmas.Bool.{le-ltb, lt-ltb, ne_eqb}
use Rattle.std.proofs.lemmas.List.{append-nil}
use Rattle.std.proofs.Math.Bool.{and-false, and-true}
use Rattle.std.proofs.lemmas.Grind.{flat_map-append}
use Rattle.std.specs.Prelude.{nat_lt, codes, min}
use Rattle.std.specs.List.{flat_map}
use Rattle.std.specs.Str.{bytes_eq}
use Rattle.lisp_base.specs.Shown.{below, in_order}
use Rattle.lisp_print.specs.declared.letters.Spelling.{Spelling}
use Rattle.lisp_print.specs.Texts.{letters_text, most_letters, spelled}

pub below_some : {A : Type 0} (n i : ℕ) (a : A) → i < n → below n i a ≡ Some a
below_some n i a lt = rw (lt-ltb i n lt) refl

-- what stands at an index that is below the count, and what none says
pub of_some : {A : Type 0} (n i : ℕ) (a x : A) → below n i a ≡ Some x → (i < n) × (a ≡ x)
of_some n i a x e =
    elim (leb_tells n i) [
      | inl beyond ↦ absurd (let none : below n i a ≡ None = rw (le-ltb i n beyond.1) refl in (cc))
      | inr within ↦ (within.1, let some : below n i a ≡ Some a = below_some n i a within.1 in (cc))
    ]

pub of_none : {A : Type 0} (n i : ℕ) (a : A) → below n i a ≡ None → n ≤ i
of_none n i a e =
    elim (leb_tells n i) [
      | inl beyond ↦ beyond.1
      | inr within ↦ absurd (let some : below n i a ≡ Some a = below_some n i a within.1 in (cc))
    ]

-- one more
pub in_order_more : {A : Type 0} (at : ℕ → A) (i n : ℕ) → in_order at i (n + 1) ≡ in_order at i n ++ (at (i + n) ∷ [])
in_order_more at i zero = rw (add-zero i) refl
in_order_more at i (suc n) =
    let e : suc n + 1 ≡ suc (n + 1) = omega arith in
    let f : suc i + n ≡ i + suc n = omega arith in
    rw e (ap (λ l. at i ∷ l) (in_order_more at (suc i) n ∙ ap (λ (k : ℕ). in_order at (suc i) n ++ (at k ∷ [])) f))

pub flat_map_more : (f : ℕ → List ℕ) (letter : ℕ → ℕ) (n : ℕ)
    → flat_map f (in_order letter 0 (n + 1)) ≡ flat_map f (in_order letter 0 n) ++ f (letter n)
flat_map_more f letter n =
    let e : 0 + n ≡ n = omega arith in
    ap (flat_map f) (in_order_more letter 0 n ∙ ap (λ (k : ℕ). in_order letter 0 n ++ (letter k ∷ [])) e)
    ∙ flat_map-append f (in_order letter 0 n) (letter n ∷ [])
    ∙ ap (λ (l : List ℕ). flat_map f (in_order letter 0 n) ++ l) (append-nil (f (letter n)))

pub length-in_order : {A : Type 0} (at : ℕ → A) (i n : ℕ) → length (in_order at i n) ≡ n
length-in_order at i zero = refl
length-in_order at i (suc n) = ap suc (length-in_order at (suc i) n)

pub take-in_order : {A : Type 0} (at : ℕ → A) (i n k : ℕ) → take k (in_order at i n) ≡ in_order at i (min n k)
take-in_order at i zero zero = refl
take-in_order at i zero (suc k) =
    let e : min 0 (suc k) ≡ 0 = omega arith in
    rw e refl
take-in_order at i (suc n) zero =
    let e : min (suc n) 0 ≡ 0 = omega arith in
    rw e refl
take-in_order at i (suc n) (suc k) =
    let e : min (suc n) (suc k) ≡ suc (min n k) = omega arith in
    rw e (ap (λ l. at i ∷ l) (take-in_order at (suc i) n k))

-- the text of so many letters: of those up to the most, and the dots
letters_are : (spelling : Spelling) (letter : ℕ → ℕ) (count : ℕ)
    → letters_text spelling (in_order letter 0 count)
    ≡ flat_map (spelled spelling) (in_order letter 0 (min count most_letters)) ++ (if nat_lt most_letters count then codes "..." else [])
letters_are spelling letter count =
    rw (take-in_order letter 0 count most_letters, length-in_order letter 0 count) refl

pub letters_cut : (spelling : Spelling) (letter : ℕ → ℕ) (count n : ℕ) → n ≡ most_letters → most_letters < count
    → letters_text spelling (in_order letter 0 count) ≡ flat_map (spelled spelling) (in_order letter 0 n) ++ codes "..."
letters_cut spelling letter count n e lt =
    let m : min count most_letters ≡ n = omega arith in
    letters_are spelling letter count ∙ rw (lt-ltb most_letters count lt, m) refl

pub letters_whole : (spelling : Spelling) (letter : ℕ → ℕ) (count n : ℕ) → n ≡ count → count ≤ most_letters
    → letters_text spelling (in_order letter 0 count) ≡ flat_map (spelled spelling) (in_order letter 0 n)
letters_whole spelling letter count n e le =
    let m : min count most_letters ≡ n = omega arith in
    letters_are spelling letter count ∙ rw (le-ltb most_letters count le, m) (append-nil (flat_map (spelled spelling) (in_order letter 0 n)))

-- the letters of NIL
pub nil_letters : (letter : ℕ → ℕ) (count : ℕ)
    → bytes_eq (in_order letter 0 count) (codes "NIL") ≡ ((count == 3) && ((letter 0 == 78) && ((letter 1 == 73) && (letter 2 == 76))))
nil_letters letter zero = refl
nil_letters letter (suc zero) = and-false (letter 0 == 78)
nil_letters letter (suc (suc zero)) = ap (λ (b : Bool). (letter 0 == 78) && b) (and-false (letter 1 == 73)) ∙ and-false (letter 0 == 78)
nil_letters letter (suc (suc (suc zero))) = ap (λ (b : Bool). (letter 0 == 78) && ((letter 1 == 73) && b)) (and-true (letter 2 == 76))
nil_letters letter (suc (suc (suc (suc n)))) =
    rw (ne_eqb (suc (suc (suc (suc n)))) 3 (omega arith))
    (ap (λ (b : Bool). (letter 0 == 78) && ((letter 1 == 73) && b)) (and-false (letter 2 == 76))
    ∙ ap (λ (b : Bool). (letter 0 == 78) && b) (and-false (letter 1 == 73)) ∙ and-false (letter 0 == 78))
