-- The elements that are found are those of a proper list, and no proper list has more conses than there are objects.
use Rattle.std.proofs.Common.{◌≡◌, ◌<◌, ◌≤◌, ℕ, zero, suc, Bool, true, false, ◌||◌, List, [], ◌∷◌, Option, Some, None, length, slice_get, refl, sym, ap, ◌∙◌, subst, arith, if◌then◌else◌}
use Rattle.std.specs.List.{AllByRecursion, IsDistinct, list_any}
use Rattle.std.specs.Option.{option_map, option_and_then}
use lib.Dec.{eqb}
use Rattle.std.proofs.lemmas.Bool.{eqb-true, ne_eqb, false≢true}
use Rattle.std.proofs.lemmas.Option.{slice_get_within}
use Rattle.std.proofs.lemmas.Map.Steps.{length-le_from_distinct_below}
use Rattle.lisp_base.specs.declared.values.Val.{Val}
use Rattle.lisp_base.specs.declared.values.Val.TheVariants.{Int, Char, Sym, Ref}
use Rattle.lisp_base.specs.Sort.{index_of, object}
use Rattle.lisp_base.specs.Tables.{Object}
use Rattle.lisp_forms.specs.Conses.{is_nil, cons_at, cons_parts, elements, elements_within}
use Rattle.lisp_forms.specs.Laws.{IsListOf, ElementsAreThose, ListsAreFound}
use Rattle.lisp_forms.proofs.Walks.{at_nil, at_more}

-- ---- conses

some_is : {A : Type 0} (x y : A) → Some x ≡ Some y → x ≡ y
some_is x y e = cc

some_not_none : {A : Type 0} (x : A) → None ≡ Some x → ⊥
some_not_none x e = cc

nil_no_cons : (heap : List Object) (v : Val) (p : Val × Val) → is_nil v ≡ true → cons_at heap v ≡ Some p → ⊥
nil_no_cons heap (Int z) p n e = some_not_none p e
nil_no_cons heap (Char c) p n e = some_not_none p e
nil_no_cons heap (Sym s) p n e = some_not_none p e
nil_no_cons heap (Ref o) p n e = false≢true n

cons_not_nil : (heap : List Object) (v : Val) (p : Val × Val) → cons_at heap v ≡ Some p → is_nil v ≡ false
cons_not_nil heap v p e = by (is_nil v) refl
  where
    by : (b : Bool) → is_nil v ≡ b → is_nil v ≡ false
    by true is = absurd (nil_no_cons heap v p is e)
    by false is = is

-- the number of an object that a value refers to
abbrev ref_of : Val → ℕ
ref_of (Int z) = 0
ref_of (Char c) = 0
ref_of (Sym s) = 0
ref_of (Ref o) = index_of o

held : (heap : List Object) (n : ℕ) (p : Val × Val) (s : Option Object) → slice_get heap n ≡ s → cons_parts s ≡ Some p → n < length heap
held heap n p None is e = absurd (some_not_none p e)
held heap n p (Some o) is e = slice_get_within heap n o is

inside : (heap : List Object) (v : Val) (p : Val × Val) → cons_at heap v ≡ Some p → ref_of v < length heap
inside heap (Int z) p e = absurd (some_not_none p e)
inside heap (Char c) p e = absurd (some_not_none p e)
inside heap (Sym s) p e = absurd (some_not_none p e)
inside heap (Ref o) p e = held heap (index_of o) p (slice_get heap (index_of o)) refl e

same_ref : (heap : List Object) (v w : Val) (p q : Val × Val) → cons_at heap v ≡ Some p → cons_at heap w ≡ Some q → ref_of v ≡ ref_of w → v ≡ w
same_ref heap (Int z) w p q d e is = absurd (some_not_none p d)
same_ref heap (Char c) w p q d e is = absurd (some_not_none p d)
same_ref heap (Sym s) w p q d e is = absurd (some_not_none p d)
same_ref heap (Ref o) (Int z) p q d e is = absurd (some_not_none q e)
same_ref heap (Ref o) (Char c) p q d e is = absurd (some_not_none q e)
same_ref heap (Ref o) (Sym s) p q d e is = absurd (some_not_none q e)
same_ref heap (Ref o) (Ref r) p q d e is = ap (λ (n : ℕ). Ref (object n)) is

-- ---- one length

same_length : (heap : List Object) (v : Val) (xs ys : List Val) → IsListOf heap v xs → IsListOf heap v ys → length xs ≡ length ys
same_length heap v [] [] l m = refl
same_length heap v [] (y ∷ ys) l (rest, at, m) = absurd (nil_no_cons heap v (y, rest) l at)
same_length heap v (x ∷ xs) [] (rest, at, l) m = absurd (nil_no_cons heap v (x, rest) m at)
same_length heap v (x ∷ xs) (y ∷ ys) (rest, at, l) (others, there, m) =
    let pair : (x, rest) ≡ (y, others) = some_is (x, rest) (y, others) (sym at ∙ there) in
    let tail : rest ≡ others = ap (λ (p : Val × Val). p.1) pair in
    ap suc (same_length heap rest xs ys l (subst (λ (w : Val). IsListOf heap w ys) (sym tail) m))

-- ---- the numbers of the conses of a list

numbers : (heap : List Object) (v : Val) (xs : List Val) → IsListOf heap v xs → List ℕ
numbers heap v [] l = []
numbers heap v (x ∷ xs) (rest, at, l) = ref_of v ∷ numbers heap rest xs l

count : (heap : List Object) (v : Val) (xs : List Val) (l : IsListOf heap v xs) → length (numbers heap v xs l) ≡ length xs
unfolding numbers
count heap v [] l = refl
count heap v (x ∷ xs) (rest, at, l) = ap suc (count heap rest xs l)

below : (heap : List Object) (v : Val) (xs : List Val) (l : IsListOf heap v xs) (q : ℕ) → list_any (eqb q) (numbers heap v xs l) ≡ true → q < length heap
unfolding numbers
below heap v [] l q e = absurd (false≢true e)
below heap v (x ∷ xs) (rest, at, l) q e = by (eqb q (ref_of v)) refl e (below heap rest xs l q)
  where
    by : (b : Bool) → eqb q (ref_of v) ≡ b → (b || list_any (eqb q) (numbers heap rest xs l)) ≡ true → (list_any (eqb q) (numbers heap rest xs l) ≡ true → q < length heap) → q < length heap
    by true is h later = subst (λ (n : ℕ). n < length heap) (sym (eqb-true q (ref_of v) is)) (inside heap v (x, rest) at)
    by false is h later = later h

-- a longer list begins elsewhere
apart : (heap : List Object) (w : Val) (y : Val) (ys : List Val) (m : IsListOf heap w (y ∷ ys)) (v : Val) (xs : List Val) (l : IsListOf heap v xs) → length xs < length (y ∷ ys) → AllByRecursion (λ n. eqb (ref_of w) n ≡ false) (numbers heap v xs l)
unfolding numbers
apart heap w y ys m v [] l shorter = tt
apart heap w y ys (others, there, m) v (x ∷ xs) (rest, at, l) shorter =
    (ne_eqb (ref_of w) (ref_of v) differ, apart heap w y ys (others, there, m) rest xs l (omega (arith, shorter)))
  where
    differ : ref_of w ≡ ref_of v → ⊥
    differ is =
        let one : w ≡ v = same_ref heap w v (y, others) (x, rest) there at is in
        let long : length (y ∷ ys) ≡ length (x ∷ xs) = same_length heap v (y ∷ ys) (x ∷ xs) (subst (λ (u : Val). IsListOf heap u (y ∷ ys)) one (others, there, m)) (rest, at, l) in
        omega (arith, long, shorter)

distinct : (heap : List Object) (v : Val) (xs : List Val) (l : IsListOf heap v xs) → IsDistinct eqb (numbers heap v xs l)
unfolding numbers IsDistinct
distinct heap v [] l = tt
distinct heap v (x ∷ xs) (rest, at, l) = (apart heap v x xs (rest, at, l) rest xs l (omega arith), distinct heap rest xs l)

few : (heap : List Object) (v : Val) (xs : List Val) → IsListOf heap v xs → length xs ≤ length heap
few heap v xs l =
    subst (λ (n : ℕ). n ≤ length heap) (count heap v xs l) (length-le_from_distinct_below (numbers heap v xs l) (length heap) (distinct heap v xs l) (below heap v xs l))

-- ---- both ways

found : (n : ℕ) (heap : List Object) (v : Val) (xs : List Val) → IsListOf heap v xs → length xs ≤ n → elements_within n heap v ≡ Some xs
found n heap v [] l within = at_nil n heap v l
found zero heap v (x ∷ xs) (rest, at, l) within = absurd (omega (arith, within))
found (suc n) heap v (x ∷ xs) (rest, at, l) within =
    at_more n heap v (Some (x, rest)) (cons_not_nil heap v (x, rest) at) at
    ∙ ap (option_map (λ (ys : List Val). x ∷ ys)) (found n heap rest xs l (omega (arith, within)))

pub lists_are_found : ListsAreFound
unfolding elements
lists_are_found heap v xs l = found (length heap) heap v xs l (few heap v xs l)

ends : (heap : List Object) (v : Val) (xs : List Val) → is_nil v ≡ true → Some [] ≡ Some xs → IsListOf heap v xs
ends heap v xs is e = subst (IsListOf heap v) (some_is [] xs e) is

module _ (n : ℕ) (heap : List Object) (v : Val) (xs : List Val) (later : (rest : Val) (ys : List Val) → elements_within n heap rest ≡ Some ys → IsListOf heap rest ys) where
  joined : (x rest : Val) → cons_at heap v ≡ Some (x, rest) → (o : Option (List Val)) → elements_within n heap rest ≡ o → option_map (λ ys. x ∷ ys) o ≡ Some xs → IsListOf heap v xs
  joined x rest at None is h = absurd (some_not_none xs h)
  joined x rest at (Some ys) is h = subst (IsListOf heap v) (some_is (x ∷ ys) xs h) (rest, at, later rest ys is)

  more : (o : Option (Val × Val)) → cons_at heap v ≡ o → option_and_then (λ p. option_map (λ ys. p.0 ∷ ys) (elements_within n heap p.1)) o ≡ Some xs → IsListOf heap v xs
  more None is h = absurd (some_not_none xs h)
  more (Some p) is h = joined p.0 p.1 is (elements_within n heap p.1) refl h

  first_step : (b : Bool) → is_nil v ≡ b → (if b then Some [] else option_and_then (λ p. option_map (λ ys. p.0 ∷ ys) (elements_within n heap p.1)) (cons_at heap v)) ≡ Some xs → IsListOf heap v xs
  first_step true is h = ends heap v xs is h
  first_step false is h = more (cons_at heap v) refl h

those : (n : ℕ) (heap : List Object) (v : Val) (xs : List Val) → elements_within n heap v ≡ Some xs → IsListOf heap v xs
those zero heap v xs e = by (is_nil v) refl e
  where
    by : (b : Bool) → is_nil v ≡ b → (if b then Some [] else None) ≡ Some xs → IsListOf heap v xs
    by true is h = ends heap v xs is h
    by false is h = absurd (some_not_none xs h)
those (suc n) heap v xs e = first_step n heap v xs (λ rest ys is. those n heap rest ys is) (is_nil v) refl e

pub elements_are_those : ElementsAreThose
unfolding elements
elements_are_those heap v xs e = those (length heap) heap v xs e
