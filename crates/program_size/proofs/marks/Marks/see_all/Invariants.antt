use Rattle.std.proofs.Common.{◌+◌, length}
use Rattle.program_size.proofs.Seen.{Seeing, left}
use Rattle.program_size.proofs.marks.Marks.see_all.Given as goal

abbrev pub invariant-loop-value : goal.invariant-loop-value
invariant-loop-value l = Seeing l.heap l.fn.values.items l.initial.self l.self l.work.items

abbrev pub decreases-loop-value : goal.decreases-loop-value
decreases-loop-value l = left l.heap l.self + length l.work.items
