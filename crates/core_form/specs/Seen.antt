-- What is seen of a value of a run: its tree, to a depth. (This project's own.)
use Rattle.std.specs.Prelude.{◌≡◌, ℕ, zero, suc, List, map, slice_get, Option, Some, None}
use Rattle.lisp_base.specs.declared.values.Val.{Val}
use Rattle.lisp_base.specs.declared.values.Val.TheVariants.{Int, Char, Sym, Ref}
use Rattle.lisp_base.specs.Sort.{number_of, index_of}
use Rattle.lisp_base.specs.Seen.{Tree, Deep, Bad, Number, Letter, Name, Text, Function, Both, Row, trees}
use Rattle.core_form.specs.State.{Symbol, Object, Pair, Vector, Str, Fun, Cell}

abbrev pub symbol_tree : Option Symbol → Tree
symbol_tree None = Bad
symbol_tree (Some s) = Name s.name s.kind

abbrev pub object_tree : (Val → Tree) → Option Object → Tree
object_tree part None = Bad
object_tree part (Some (Pair a d)) = Both (part a) (part d)
object_tree part (Some (Vector vs)) = Row (trees (map part vs))
object_tree part (Some (Str cs)) = Text cs
object_tree part (Some (Fun k closed)) = Function
object_tree part (Some (Cell v)) = Bad

abbrev pub tree_of : List Symbol → List Object → ℕ → Val → Tree
tree_of symbols store zero v = Deep
tree_of symbols store (suc j) (Int z) = Number z
tree_of symbols store (suc j) (Char c) = Letter c
tree_of symbols store (suc j) (Sym s) = symbol_tree (slice_get symbols (number_of s))
tree_of symbols store (suc j) (Ref o) = object_tree (tree_of symbols store j) (slice_get store (index_of o))

-- the same value of one program in two stores
abbrev pub SameValue : List Symbol → (first second : List Object) → Val → Val → Type 0
SameValue symbols first second v w = (j : ℕ) → tree_of symbols first j v ≡ tree_of symbols second j w
