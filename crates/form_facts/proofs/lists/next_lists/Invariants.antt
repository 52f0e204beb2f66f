use Rattle.std.proofs.Common.{◌≡◌, ◌++◌, drop}
use Rattle.closed_copies.specs.Walked.{entries_list}
use Rattle.form_facts.specs.View.{lists_of}
use Rattle.form_facts.specs.Lists.{one_round}
use Rattle.form_facts.proofs.lists.next_lists.Given as goal

abbrev pub invariant-loop-function : goal.invariant-loop-function
invariant-loop-function l =
    lists_of l.next.items ++ one_round (entries_list (drop l.function-index l.table)) (lists_of l.lists) ≡ one_round (entries_list l.table) (lists_of l.lists)
