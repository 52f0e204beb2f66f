-- The places of a tree whose form has one place for all, as in a function of the prelude (this project's own).
use Rattle.std.specs.Prelude.{◌≡◌, ℕ, true, All}
use Rattle.lisp_base.specs.declared.values.Val.{Val}
use Rattle.core_form.specs.Tree.{Core}
use Rattle.core_form.specs.Lawful.{places_in}
use Rattle.expansion.specs.Scopes.{Scope}
use Rattle.expansion.specs.Steps.{World, gives}
use Rattle.expansion.specs.Expanding.{expand}

-- all nodes and functions of the tree stand at that place
abbrev pub TreesStayInPlace : Type 0
TreesStayInPlace =
    (fuel levels chain : ℕ) (sc : Scope) (v : Val) (w : World) (e : Core) (after : World) → sc.is_fixed ≡ true →
    expand fuel levels chain sc v w ≡ gives e after → All (λ p. p ≡ sc.place) (places_in e)
