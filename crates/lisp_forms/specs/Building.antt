-- Making the forms that trees stand for: the conses of all that stands in a list before its own, from left to right, and of the list its last
-- cons first. None of them has a place (this project's own).
use Rattle.std.specs.Prelude.{List, [], ◌∷◌, ◌++◌, None, length, slice_index_or}
use Rattle.lisp_base.specs.declared.values.Val.{Val}
use Rattle.lisp_base.specs.declared.values.Val.TheVariants.{Ref}
use Rattle.lisp_base.specs.Sort.{nil, object}
use Rattle.lisp_base.specs.Tables.{Object, Cons}
use Rattle.lisp_forms.specs.Trees.{Tree, form, fresh, inner, listed, Trees, none, also}

-- a new cons
abbrev pub made_cons : (car cdr : Val) → List Object → Val × List Object
made_cons car cdr heap = (Ref (object (length heap)), heap ++ Cons car cdr None ∷ [])

-- the conses of a list of these elements, before a tail
abbrev pub made_list : List Val → (tail : Val) → List Object → Val × List Object
made_list [] tail heap = (tail, heap)
made_list (x ∷ xs) tail heap = made_cons x (made_list xs tail heap).0 (made_list xs tail heap).1

abbrev pub with_first : Val → List Val × List Object → List Val × List Object
with_first x rest = (x ∷ rest.0, rest.1)

-- the form of a tree and the heap after it is made, with these fresh symbols and this form made just before
unfoldable mutual
  pub built : List Val → Val → Tree → List Object → Val × List Object
  built symbols before (form v) heap = (v, heap)
  built symbols before (fresh n) heap = (slice_index_or symbols n nil, heap)
  built symbols before inner heap = (before, heap)
  built symbols before (listed xs tail) heap =
      made_list (built_each symbols before xs heap).0 tail (built_each symbols before xs heap).1

  pub built_each : List Val → Val → Trees → List Object → List Val × List Object
  built_each symbols before none heap = ([], heap)
  built_each symbols before (also x xs) heap =
      with_first (built symbols before x heap).0 (built_each symbols before xs (built symbols before x heap).1)
