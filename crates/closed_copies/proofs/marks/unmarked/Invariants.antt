use Rattle.std.proofs.Common.{◌≡◌, ◌++◌, drop}
use Rattle.closed_copies.specs.Walked.{entries_list}
use Rattle.closed_copies.specs.Marks.{unmarked}
use Rattle.closed_copies.proofs.marks.unmarked.Given as goal

abbrev pub invariant-loop-function : goal.invariant-loop-function
invariant-loop-function l = l.marks.items ++ unmarked (entries_list (drop l._function-index l.table)) ≡ unmarked (entries_list l.table)
