use Rattle.std.proofs.Common.{refl}
use Rattle.rv_machine.proofs.DoesLaws.{does_as}
use Rattle.rv_machine.proofs.machine.Machine.trap.Goals as goal

pub returns : goal.returns
returns c = λ input. does_as (c.end.ensures input) (λ output. refl)
