use Rattle.std.proofs.Common.{refl, ap, ◌∙◌}
use Rattle.rv_machine.proofs.DoesLaws.{does_as, does_from, effected_effect}
use Rattle.rv_machine.specs.View.{space, state}
use Rattle.rv_machine.specs.Effects.{effected}
use Rattle.rv_machine.specs.declared.effects.Effect.{Effect}
use Rattle.rv_machine.proofs.machine.Machine.execute.Goals as goal

pub returns : goal.returns
returns c =
    does_as (does_from c.args.self.now c.apply.ensures (λ output. refl) refl refl) (λ output.
    let m = state output c.args.input.now c.args.self.now in
    ap (λ (e : Effect). effected (space c.args.self.now) e m) c.effect-effect.ensures ∙ effected_effect (space c.args.self.now) m c.args.instr)
