use Rattle.rv_machine.proofs.DoesLaws.{does_as, step_on, stays_ended}
use Rattle.rv_machine.specs.View.{space, state}
use Rattle.rv_machine.proofs.machine.Machine.step.Goals as goal

pub returns-in-Some : goal.returns-in-Some
returns-in-Some c =
    let ended = stays_ended (space c.args.self.now) c.args.input.now c.args.self.now c.in-Some.ending c.in-Some.is in
    rw c.event_of.ensures ended

pub returns-in-None : goal.returns-in-None
returns-in-None c =
    does_as c.advance.ensures (λ output. step_on (space c.args.self.now) (state output c.args.input.now c.args.self.now) c.in-None.is)
