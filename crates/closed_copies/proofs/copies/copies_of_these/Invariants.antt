use Rattle.std.proofs.Common.{◌≡◌, ◌+◌, ◌≤◌, drop}
use Rattle.closed_copies.specs.Walked.{entries_list}
use Rattle.closed_copies.specs.Marks.{copies_of_all}
use Rattle.closed_copies.proofs.copies.copies_of_these.Given as goal

abbrev pub invariant-loop-variable : goal.invariant-loop-variable
invariant-loop-variable l = record {
  sum : l.total + copies_of_all l.locals l.calls (entries_list l.table) (drop l.variable-index l.variables) ≡ copies_of_all l.locals l.calls (entries_list l.table) l.variables;
  few : l.total ≤ l.most;
}
