use Rattle.std.proofs.Common.{◌≡◌, ◌++◌, length}
use Rattle.rv_isa.specs.Start.{words64}
use Rattle.rv_machine.proofs.words.words64.Given as goal

abbrev pub invariant-loop-rest : goal.invariant-loop-rest
invariant-loop-rest l = l.words.items ++ words64 l.rest ≡ words64 l.bytes

abbrev pub decreases-loop-rest : goal.decreases-loop-rest
decreases-loop-rest l = length l.rest
