-- What is counted in a tree: its nodes, what it binds, and its functions (this project's own).
use Rattle.std.specs.Prelude.{◌≡◌, ℕ, ◌+◌, ◌≤◌, map, length}
use Rattle.lisp_base.specs.declared.values.Val.{Val}
use Rattle.core_form.specs.Tree.{Core, node_count}
use Rattle.core_form.specs.Facts.{functions_in}
use Rattle.core_form.specs.Lawful.{CountFrom, function_number, bound_in}
use Rattle.expansion.specs.Scopes.{Scope}
use Rattle.expansion.specs.Steps.{World, gives, most_nodes}
use Rattle.expansion.specs.Expanding.{expand}

-- From a world to the one after it the nodes of a tree have been counted; what it binds has the next numbers, and its functions have theirs.
pub record IsCounted (w : World) (e : Core) (after : World) : Type 0 where
  pub nodes : after.nodes ≡ w.nodes + node_count e
  pub binders : CountFrom w.next (bound_in e)
  pub next : after.next ≡ w.next + length (bound_in e)
  pub numbers : CountFrom w.functions (map function_number (functions_in e))
  pub functions : after.functions ≡ w.functions + length (functions_in e)
  pub few : after.nodes ≤ most_nodes

abbrev pub TreesAreCounted : Type 0
TreesAreCounted =
    (fuel levels chain : ℕ) (sc : Scope) (v : Val) (w : World) (e : Core) (after : World) → expand fuel levels chain sc v w ≡ gives e after →
    IsCounted w e after
