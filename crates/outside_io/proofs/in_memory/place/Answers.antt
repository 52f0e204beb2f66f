use Rattle.std.proofs.Common.{arith}
use Rattle.outside_io.proofs.Entries.{found_none}
use Rattle.outside_io.proofs.in_memory.place.Goals as goal

pub returns : goal.returns
returns c = found_none _ _ (λ k lt. c.loop-index.invariant k (omega arith))
