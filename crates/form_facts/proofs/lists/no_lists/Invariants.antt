use Rattle.std.proofs.Common.{◌≡◌, ◌++◌, drop}
use Rattle.closed_copies.specs.Walked.{entries_list}
use Rattle.form_facts.specs.View.{lists_of}
use Rattle.form_facts.specs.Lists.{none_closed}
use Rattle.form_facts.proofs.lists.no_lists.Given as goal

abbrev pub invariant-loop-function : goal.invariant-loop-function
invariant-loop-function l =
    lists_of l.lists.items ++ none_closed (entries_list (drop l._function-index l.table)) ≡ none_closed (entries_list l.table)
