use Rattle.std.proofs.Common.{◌≡◌, [], drop}
use Rattle.closed_copies.specs.Table.{all_referred}
use Rattle.closed_copies.specs.Walked.{entries_list}
use Rattle.closed_copies.proofs.functions.variables_in.Given as goal

abbrev pub invariant-loop-function : goal.invariant-loop-function
invariant-loop-function l =
    all_referred l.numbers.items (entries_list (drop l.function-index l.table)) ≡ all_referred [] (entries_list l.table)
