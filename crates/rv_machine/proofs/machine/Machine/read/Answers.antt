use Rattle.rv_machine.proofs.DoesLaws.{does_as, reads_end}
use Rattle.std.proofs.lemmas.List.{drop_all}
use Rattle.rv_machine.specs.View.{state}
use Rattle.rv_machine.proofs.machine.Machine.read.Goals as goal

pub returns-else-self-input : goal.returns-else-self-input
returns-else-self-input c =
    does_as (c.set-else-self-input.ensures c.args.input.now) (λ output.
    reads_end c.of-else-self-input.result (state output c.args.input.now c.args.self.now) c.of-else-self-input.ensures (drop_all c.args.self.now.taken c.args.input.now c.if-self-input.false))
