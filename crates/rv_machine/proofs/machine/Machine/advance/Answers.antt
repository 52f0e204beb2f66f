use Rattle.std.proofs.Common.{Option, sym, ap, ◌∙◌}
use Rattle.rv_machine.proofs.DoesLaws.{does_as}
use Rattle.rv_machine.specs.View.{space, state}
use Rattle.rv_isa.specs.Machine.{executed_if}
use Rattle.rv_isa.specs.declared.instr.Instr.{Instr}
use Rattle.rv_machine.proofs.machine.Machine.advance.Goals as goal

pub returns-in-None : goal.returns-in-None
returns-in-None c =
    does_as (c.trap.ensures c.args.input.now) (λ output.
    ap (λ (i : Option Instr). executed_if (space c.args.self.now) i (state output c.args.input.now c.args.self.now)) (sym c.in-None.is ∙ c.fetch.ensures.value))
