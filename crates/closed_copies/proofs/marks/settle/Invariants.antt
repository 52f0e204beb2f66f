use Rattle.std.proofs.Common.{◌≡◌, ◌-◌}
use Rattle.closed_copies.specs.Walked.{entries_list}
use Rattle.closed_copies.specs.Marks.{rounds, unmarked}
use Rattle.closed_copies.proofs.marks.settle.Given as goal

abbrev pub invariant-loop-round : goal.invariant-loop-round
invariant-loop-round l =
    rounds (l.rounds - l._round) l.variable (entries_list l.table) l.marks.items ≡ rounds l.rounds l.variable (entries_list l.table) (unmarked (entries_list l.table))
