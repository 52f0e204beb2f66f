-- Laws that other crates can call: how a template that is a list is read, and which elements a list has (this project's own).
use Rattle.std.specs.Prelude.{◌≡◌, true, List, [], ◌∷◌, Some, map}
use Rattle.std.specs.declared.vec.Vec.{Vec}
use Rattle.std.specs.declared.alloc.Global.{Global}
use Rattle.lisp_base.specs.declared.values.Val.{Val}
use Rattle.lisp_base.specs.Tables.{Object}
use Rattle.lisp_forms.specs.declared.template.Template.{Template}
use Rattle.lisp_forms.specs.declared.template.Template.TheVariants as variant
use Rattle.lisp_forms.specs.Conses.{is_nil, cons_at, elements}
use Rattle.lisp_forms.specs.Trees.{tree_of, trees, listed}

abbrev pub ReadsList : Type 0
ReadsList = (v : Vec Template Global) (tail : Val) → tree_of (variant.List v tail) ≡ listed (trees (map tree_of v.items)) tail

-- a value is the proper list of these elements: NIL where there is none, else a cons of the first and the list of the others
abbrev pub IsListOf : List Object → Val → List Val → Type 0
IsListOf heap v [] = is_nil v ≡ true
IsListOf heap v (x ∷ xs) = (rest : Val) × (cons_at heap v ≡ Some (x, rest)) × IsListOf heap rest xs

-- what is found are the elements of a proper list, and every proper list is found, however long
abbrev pub ElementsAreThose : Type 0
ElementsAreThose = (heap : List Object) (v : Val) (xs : List Val) → elements heap v ≡ Some xs → IsListOf heap v xs

abbrev pub ListsAreFound : Type 0
ListsAreFound = (heap : List Object) (v : Val) (xs : List Val) → IsListOf heap v xs → elements heap v ≡ Some xs
