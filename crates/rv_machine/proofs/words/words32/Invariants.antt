use Rattle.std.proofs.Common.{◌≡◌, ◌++◌, length}
use Rattle.rv_isa.specs.Start.{words32}
use Rattle.rv_machine.proofs.words.words32.Given as goal

abbrev pub invariant-loop-rest : goal.invariant-loop-rest
invariant-loop-rest l = l.words.items ++ words32 l.rest ≡ words32 l.bytes

abbrev pub decreases-loop-rest : goal.decreases-loop-rest
decreases-loop-rest l = length l.rest
