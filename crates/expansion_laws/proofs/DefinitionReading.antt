-- The form that refuses keys, as it stands in a heap: it reads the same in each longer one.
use Rattle.std.specs.Prelude.{◌≡◌, refl, ℕ, zero, suc, List, [], ◌∷◌, length, Option, Some, None}
use Rattle.std.specs.Option.{option_map, option_and_then}
use Rattle.std.proofs.Common.{ap, sym, ◌∙◌}
use Rattle.lisp_base.specs.declared.base_symbols.TheConstants as at
use Rattle.lisp_base.specs.declared.values.SymId.{SymId}
use Rattle.lisp_base.specs.declared.values.Val.{Val}
use Rattle.lisp_base.specs.declared.values.Val.TheVariants.{Int, Char, Sym, Ref}
use Rattle.lisp_base.specs.Sort.{nil}
use Rattle.lisp_base.specs.Tables.{Object, Cons}
use Rattle.lisp_forms.specs.Conses.{cons_parts, cons_at, elements_within, elements}
use Rattle.lisp_forms.specs.Building.{made_cons, made_list, built, built_each}
use Rattle.lisp_forms.specs.Trees.{Tree, form}
use Rattle.lambda_lists.specs.Trees.{call, refusal_tree}
use Rattle.lambda_lists.specs.LambdaLists.{made}
use Rattle.expansion_laws.proofs.ThereStores.{get_last}
use Rattle.expansion_laws.proofs.DefinitionHeaps.{Longer, longer_by, longer_on, cons_kept, list_longer}

-- ---- the elements of a list

-- a value has these elements, by so many conses or fewer
pub record AreElements (heap : List Object) (v : Val) (xs : List Val) : Type 0 where
  pub most : ℕ
  pub are : elements_within most heap v ≡ Some xs

pub elements_found : (heap : List Object) (v : Val) (xs : List Val) → elements heap v ≡ Some xs → AreElements heap v xs
unfolding elements
elements_found heap v xs is = record { most = length heap; are = is }

-- the first element and the others
pub record Begins (heap : List Object) (first rest : Val) (xs : List Val) : Type 0 where
  pub others : List Val
  pub are : AreElements heap rest others
  pub is : xs ≡ first ∷ others

module _ (heap : List Object) (first rest : Val) (xs : List Val) where
  begins_by : (n : ℕ) (found : Option (List Val)) → elements_within n heap rest ≡ found → option_map (λ ys. first ∷ ys) found ≡ Some xs → Begins heap first rest xs
  begins_by n None is e = absurd (cc)
  begins_by n (Some ys) is e = record { others = ys; are = record { most = n; are = is }; is = cc }

  begins_within : (n : ℕ) (v : Val) → cons_at heap v ≡ Some (first, rest) → elements_within n heap v ≡ Some xs → Begins heap first rest xs
  begins_within n (Int z) is e = absurd (cc)
  begins_within n (Char c) is e = absurd (cc)
  begins_within n (Sym s) is e = absurd (cc)
  begins_within zero (Ref o) is e = absurd (cc)
  begins_within (suc n) (Ref o) is e =
      begins_by n (elements_within n heap rest) refl
      (sym (ap (λ (p : Option (Val × Val)). option_and_then (λ p. option_map (λ ys. p.0 ∷ ys) (elements_within n heap p.1)) p) is) ∙ e)

  pub begins : (v : Val) → cons_at heap v ≡ Some (first, rest) → AreElements heap v xs → Begins heap first rest xs
  begins v is h = begins_within h.most v is h.are

nil_within : (heap : List Object) (n : ℕ) (xs : List Val) → elements_within n heap nil ≡ Some xs → xs ≡ []
nil_within heap zero xs e = cc
nil_within heap (suc n) xs e = cc

pub no_elements : {heap : List Object} {xs : List Val} → AreElements heap nil xs → xs ≡ []
no_elements {heap = heap} {xs = xs} h = nil_within heap h.most xs h.are

-- a list of one element, and of two
pub one_element : (heap : List Object) (v x : Val) (xs : List Val) → cons_at heap v ≡ Some (x, nil) → AreElements heap v xs → xs ≡ x ∷ []
one_element heap v x xs is h = let b = begins heap x nil xs v is h in b.is ∙ ap (λ (ys : List Val). x ∷ ys) (no_elements b.are)

pub two_elements : (heap : List Object) (v x rest y : Val) (xs : List Val) → cons_at heap v ≡ Some (x, rest) → cons_at heap rest ≡ Some (y, nil) → AreElements heap v xs →
    xs ≡ x ∷ y ∷ []
two_elements heap v x rest y xs is next h =
    let b = begins heap x rest xs v is h in b.is ∙ ap (λ (ys : List Val). x ∷ ys) (one_element heap rest y b.others next b.are)

-- ---- the forms

-- (LAMBDA ())
pub record IsThunk (heap : List Object) (v : Val) : Type 0 where
  pub tail : Val
  pub first : cons_at heap v ≡ Some (Sym at.LAMBDA, tail)
  pub second : cons_at heap tail ≡ Some (nil, nil)

-- (FUNCTION (LAMBDA ()))
pub record IsThunkFunction (heap : List Object) (v : Val) : Type 0 where
  pub arguments : Val
  pub thunk : Val
  pub first : cons_at heap v ≡ Some (Sym at.FUNCTION, arguments)
  pub second : cons_at heap arguments ≡ Some (thunk, nil)
  pub is_thunk : IsThunk heap thunk

-- (FUNCALL (LAMBDA ()) X)
pub record IsRefusal (heap : List Object) (v : Val) : Type 0 where
  pub arguments : Val
  pub thunk : Val
  pub rest : Val
  pub given : Val
  pub first : cons_at heap v ≡ Some (Sym at.FUNCALL, arguments)
  pub second : cons_at heap arguments ≡ Some (thunk, rest)
  pub third : cons_at heap rest ≡ Some (given, nil)
  pub is_thunk : IsThunk heap thunk

thunk_kept : {old new : List Object} {v : Val} → Longer old new → IsThunk old v → IsThunk new v
thunk_kept {v = v} l h = record { tail = h.tail; first = cons_kept v _ l h.first; second = cons_kept h.tail _ l h.second }

pub refusal_kept : {old new : List Object} {v : Val} → Longer old new → IsRefusal old v → IsRefusal new v
refusal_kept {v = v} l h = record {
  arguments = h.arguments;
  thunk = h.thunk;
  rest = h.rest;
  given = h.given;
  first = cons_kept v _ l h.first;
  second = cons_kept h.arguments _ l h.second;
  third = cons_kept h.rest _ l h.third;
  is_thunk = thunk_kept l h.is_thunk;
}

-- ---- the forms, when they are made

cons_made : (car cdr : Val) (heap : List Object) → cons_at (made_cons car cdr heap).1 (made_cons car cdr heap).0 ≡ Some (car, cdr)
cons_made car cdr heap = ap cons_parts (get_last heap (Cons car cdr None))

-- a list of two, of three
pub record TwoMade (x y : Val) (made : Val × List Object) : Type 0 where
  pub rest : Val
  pub first : cons_at made.1 made.0 ≡ Some (x, rest)
  pub second : cons_at made.1 rest ≡ Some (y, nil)

two_made : (x y : Val) (heap : List Object) → TwoMade x y (made_list (x ∷ y ∷ []) nil heap)
two_made x y heap = record {
  rest = (made_cons y nil heap).0;
  first = cons_made x (made_cons y nil heap).0 (made_cons y nil heap).1;
  second = cons_kept (made_cons y nil heap).0 (y, nil) (longer_by (Cons x (made_cons y nil heap).0 None ∷ [])) (cons_made y nil heap);
}

thunk_list : (heap : List Object) → IsThunk (made_list (Sym at.LAMBDA ∷ nil ∷ []) nil heap).1 (made_list (Sym at.LAMBDA ∷ nil ∷ []) nil heap).0
thunk_list heap = let t = two_made (Sym at.LAMBDA) nil heap in record { tail = t.rest; first = t.first; second = t.second }

abbrev thunk_in : List Object → Val × List Object
thunk_in heap = made_list (Sym at.LAMBDA ∷ nil ∷ []) nil heap

pub refusal_reads : (g : SymId) (heap : List Object) → IsRefusal (made (refusal_tree g) heap).1 (made (refusal_tree g) heap).0
unfolding built built_each
refusal_reads g heap =
    let l : Val × List Object = thunk_in heap in
    let t = two_made l.0 (Sym g) l.1 in
    let tail : Val × List Object = made_list (l.0 ∷ Sym g ∷ []) nil l.1 in
    let last : Longer tail.1 (made_cons (Sym at.FUNCALL) tail.0 tail.1).1 = longer_by (Cons (Sym at.FUNCALL) tail.0 None ∷ []) in
    record {
      arguments = tail.0;
      thunk = l.0;
      rest = t.rest;
      given = Sym g;
      first = cons_made (Sym at.FUNCALL) tail.0 tail.1;
      second = cons_kept tail.0 (l.0, t.rest) last t.first;
      third = cons_kept t.rest (Sym g, nil) last t.second;
      is_thunk = thunk_kept (longer_on (list_longer (l.0 ∷ Sym g ∷ []) nil l.1) last) (thunk_list heap);
    }

-- what the macro LAMBDA makes of (LAMBDA ())
abbrev pub thunk_function : Tree
thunk_function = call at.FUNCTION (call at.LAMBDA (form nil ∷ []) ∷ [])

pub thunk_function_reads : (heap : List Object) → IsThunkFunction (built [] nil thunk_function heap).1 (built [] nil thunk_function heap).0
unfolding built built_each
thunk_function_reads heap =
    let l : Val × List Object = thunk_in heap in
    let t = two_made (Sym at.FUNCTION) l.0 l.1 in
    record {
      arguments = t.rest;
      thunk = l.0;
      first = t.first;
      second = t.second;
      is_thunk = thunk_kept (list_longer (Sym at.FUNCTION ∷ l.0 ∷ []) nil l.1) (thunk_list heap);
    }
