use Rattle.std.proofs.Common.{◌≡◌, ◌+◌, ◌≤◌, drop}
use Rattle.closed_copies.specs.Marks.{count_true}
use Rattle.closed_copies.proofs.marks.count_true.Given as goal

abbrev pub invariant-loop-mark : goal.invariant-loop-mark
invariant-loop-mark l =
    (l.count + count_true (drop l.mark-index l.marks) ≡ count_true l.marks) × (l.count ≤ l.mark-index)
