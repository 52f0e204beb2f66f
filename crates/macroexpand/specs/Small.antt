-- Programs that are small.
use Rattle.std.specs.Prelude.{◌≤◌, List, All}
use Rattle.lisp_reader.specs.declared.forms.TopRead.{TopRead}
use Rattle.lisp_reader.specs.Building.{Stock}
use Rattle.core_form.specs.declared.tree.TopForm.{TopForm}
use Rattle.core_form.specs.Eval.{Program, program_nodes}
use Rattle.core_form.specs.Lawful.{parts_of, meant}
use Rattle.expansion.specs.Steps.{World}
use Rattle.macroexpand.specs.declared.tops.Growing.{Growing}
use Rattle.macroexpand.specs.Given.{Answered}
use Rattle.macroexpand.specs.Going.{IsGoing, HoldsMentioned}

-- no form has more than 4,000 nodes, and all together, with those of the prelude, have no more than 400,000
pub record IsSmall (p : Program) : Type 0 where
  pub prelude : All (λ t. t.nodes ≤ 4000) p.prelude
  pub forms : All (λ t. t.nodes ≤ 4000) p.forms
  pub total : program_nodes p ≤ 400000

-- a program that has grown is small, with those functions of the prelude that it mentions
abbrev pub GrownAreSmall : Type 0
GrownAreSmall =
    (forms : List TopRead) (before : Stock) (g : Growing) (w : World) (held : List TopForm) → Answered forms before g w → IsGoing g w →
    HoldsMentioned g.sizes g.prelude.items held → IsSmall (meant (parts_of held g.forms.items w.heap w.table.symbols))
