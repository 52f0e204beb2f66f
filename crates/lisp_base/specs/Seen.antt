-- What is seen of a value: a tree, to a depth. Two values are the same where their trees are equal at every depth.
use Rattle.std.specs.Prelude.{ℕ, ℤ, List, [], ◌∷◌}
use Rattle.lisp_base.specs.declared.values.SymKind.{SymKind}

mutual
  pub data Tree : Type 0 where
    -- the depth is used up
    Deep : Tree
    -- no value
    Bad : Tree
    Number : ℤ → Tree
    Letter : (code_point : ℕ) → Tree
    Name : (letters : List ℕ) → SymKind → Tree
    Text : (letters : List ℕ) → Tree
    Function : Tree
    Both : (car cdr : Tree) → Tree
    Row : Trees → Tree

  pub data Trees : Type 0 where
    no_tree : Trees
    tree : Tree → Trees → Trees

abbrev pub trees : List Tree → Trees
trees [] = no_tree
trees (t ∷ ts) = tree t (trees ts)
