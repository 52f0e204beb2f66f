use Rattle.std.proofs.Common.{length, ◌-◌, ◌≤◌}
use Rattle.outside_io.proofs.adapters.write_front.Given as goal

-- no more was written than the piece has
abbrev pub invariant-loop-written : goal.invariant-loop-written
invariant-loop-written g l = l.written ≤ length l.piece

abbrev pub decreases-loop-written : goal.decreases-loop-written
decreases-loop-written g l = length l.piece - l.written
