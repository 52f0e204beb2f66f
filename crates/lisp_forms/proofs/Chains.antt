-- Lists of conses, made from the last cons on, and the elements of lists, found from the first on.
use Rattle.std.proofs.Common.{◌≡◌, ◌<◌, ◌≤◌, ◌+◌, ℕ, List, [], ◌∷◌, ◌++◌, length, map, drop, get_or, Result, Ok, Err, IfOk, refl, sym, ap, ◌∙◌, append_assoc}
use Rattle.std.specs.declared.alloc.AllocError.{AllocError}
use Rattle.std.proofs.Math.ListN.{drop_of_length-le}
use Rattle.std.proofs.lemmas.List.{drop_more, append-nil}
use Rattle.lisp_forms.specs.declared.template.Template.{Template}
use Rattle.lisp_forms.specs.Trees.{Tree, tree_of, trees, listed}
use Rattle.lisp_base.specs.declared.values.Val.{Val}
use Rattle.lisp_base.specs.Tables.{Object}
use Rattle.lisp_forms.specs.Building.{made_cons, made_list, built, built_each, with_first}

pub list_push : (xs : List Val) (x tail : Val) (heap : List Object) → made_list (xs ++ x ∷ []) tail heap ≡ made_list xs (made_cons x tail heap).0 (made_cons x tail heap).1
list_push [] x tail heap = refl
list_push (y ∷ xs) x tail heap = ap (λ (r : Val × List Object). made_cons y r.0 r.1) (list_push xs x tail heap)

-- results after others
abbrev pub joined : List Val → List Val × List Object → List Val × List Object
joined xs rest = (xs ++ rest.0, rest.1)

-- one more element of several is made
module _ (symbols : List Val) (before : Val) where
  abbrev each : List Template → List Object → List Val × List Object
  each xs heap = built_each symbols before (trees (map tree_of xs)) heap

  each_cons : (x : Template) (xs : List Template) (heap : List Object) (v : Val) (after : List Object) → built symbols before (tree_of x) heap ≡ (v, after) → each (x ∷ xs) heap ≡ with_first v (each xs after)
  unfolding built_each
  each_cons x xs heap v after is = ap (λ (r : Val × List Object). with_first r.0 (each xs r.1)) is

  pub each_more : (whole : List Val × List Object) (xs : List Template) (i : ℕ) (item : Template) (values new : List Val) (heap after : List Object) (v : Val) → whole ≡ joined values (each (drop i xs) heap) → i < length xs → item ≡ get_or xs i item → built symbols before (tree_of item) heap ≡ (v, after) → new ≡ values ++ v ∷ [] → whole ≡ joined new (each (drop (i + 1) xs) after)
  each_more whole xs i item values new heap after v so_far inside is made added =
      so_far ∙ (ap (λ (ts : List Template). joined values (each ts heap)) (drop_more xs i item inside ∙ ap (λ (x : Template). x ∷ drop (i + 1) xs) (sym is))
      ∙ (ap (joined values) (each_cons item (drop (i + 1) xs) heap v after made)
      ∙ ap (λ (vs : List Val). (vs, (each (drop (i + 1) xs) after).1)) (sym (append_assoc values (v ∷ []) (each (drop (i + 1) xs) after).0) ∙ ap (λ (vs : List Val). vs ++ (each (drop (i + 1) xs) after).0) (sym added))))

  pub each_all : (whole : List Val × List Object) (xs : List Template) (i : ℕ) (values : List Val) (heap : List Object) → whole ≡ joined values (each (drop i xs) heap) → length xs ≤ i → whole ≡ (values, heap)
  unfolding built_each
  each_all whole xs i values heap so_far past =
      so_far ∙ (ap (λ (ts : List Template). joined values (each ts heap)) (drop_of_length-le xs {i = i} past)
      ∙ ap (λ (vs : List Val). (vs, heap)) (append-nil values))

  pub list_built : (xs es : List Template) (tail : Val) (heap between after : List Object) (values us : List Val) (r : Result Val AllocError) (x : Tree) → x ≡ listed (trees (map tree_of xs)) tail → es ≡ xs → each es heap ≡ (values, between) → us ≡ values → IfOk r (λ v. made_list us tail between ≡ (v, after)) → IfOk r (λ v. built symbols before x heap ≡ (v, after))
  unfolding built
  list_built xs es tail heap between after values us (Err e) x is same made all laid = tt
  list_built xs es tail heap between after values us (Ok v) x is same made all laid =
      ap (λ (t : Tree). built symbols before t heap) is
      ∙ (ap (λ (r : List Val × List Object). made_list r.0 tail r.1) (ap (λ (ts : List Template). each ts heap) (sym same) ∙ made)
      ∙ (ap (λ (vs : List Val). made_list vs tail between) (sym all) ∙ laid))
