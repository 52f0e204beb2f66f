-- Forms that are still to be made, as trees (this project's own).
use Rattle.std.specs.Prelude.{ℕ, List, [], ◌∷◌}
use Rattle.lisp_base.specs.declared.values.Val.{Val}
use Rattle.lisp_base.specs.Sort.{nil}
use Rattle.lisp_forms.specs.declared.template.Template.{Template}
use Rattle.lisp_forms.specs.declared.template.Template.TheBlock as t

mutual
  pub data Tree : Type 0 where
    -- a form that is there
    form : Val → Tree
    -- the fresh symbol of this number, from 0
    fresh : ℕ → Tree
    -- the form that was made just before
    inner : Tree
    -- a list of these elements, and what stands after the last of them
    listed : Trees → Val → Tree

  pub data Trees : Type 0 where
    none : Trees
    also : Tree → Trees → Trees

abbrev pub trees : List Tree → Trees
trees [] = none
trees (x ∷ xs) = also x (trees xs)

-- a list of these elements, and one that ends with the elements of another
abbrev pub list : List Tree → Tree
list xs = listed (trees xs) nil

abbrev pub list_before : List Tree → Val → Tree
list_before xs tail = listed (trees xs) tail

-- ---- the tree that a Template is

abbrev mutual
  pub tree_of : Template → Tree
  tree_of (t.Form v) = form v
  tree_of (t.Fresh n) = fresh n
  tree_of t.Inner = inner
  tree_of (t.List' shape elements tail) = listed (trees_of elements) tail

  pub trees_of : {m : _} → t.Row_of-Template m → Trees
  trees_of t.end_of-Template = none
  trees_of (t.more_of-Template x rest) = also (tree_of x) (trees_of rest)
