use Rattle.std.proofs.Common.{◌≡◌, true}
use Rattle.object_model.specs.Memory.{can_read}
use Rattle.object_model.proofs.memory.Words.can_read.Given as goal

abbrev pub invariant-loop-i : goal.invariant-loop-i
invariant-loop-i g l = can_read (g.Self.Words.words l.self) l.address l.i ≡ true
