use Rattle.std.proofs.Common.{◌-◌, ◌≤◌}
use Rattle.rv_machine.proofs.RunLaws.{IsGoing}
use Rattle.rv_machine.proofs.machine.Machine.run.Given as goal

abbrev pub invariant-loop-steps : goal.invariant-loop-steps
invariant-loop-steps l = record { going : IsGoing l.input l.fn.self l.steps l.self; most : l.steps ≤ l.n }

abbrev pub decreases-loop-steps : goal.decreases-loop-steps
decreases-loop-steps l = l.n - l.steps
