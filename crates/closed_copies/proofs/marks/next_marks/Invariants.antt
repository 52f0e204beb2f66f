use Rattle.std.proofs.Common.{◌≡◌, ◌++◌, drop}
use Rattle.closed_copies.specs.Marks.{one_round}
use Rattle.closed_copies.specs.Walked.{entries_list}
use Rattle.closed_copies.proofs.marks.next_marks.Given as goal

abbrev pub invariant-loop-function : goal.invariant-loop-function
invariant-loop-function l =
    l.next.items ++ one_round l.variable (entries_list (drop l.function-index l.table)) l.marks ≡ one_round l.variable (entries_list l.table) l.marks
