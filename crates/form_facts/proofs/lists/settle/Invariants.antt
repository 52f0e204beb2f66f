use Rattle.std.proofs.Common.{◌≡◌, ◌-◌}
use Rattle.closed_copies.specs.Walked.{entries_list}
use Rattle.form_facts.specs.View.{lists_of}
use Rattle.form_facts.specs.Lists.{rounds, none_closed}
use Rattle.form_facts.proofs.lists.settle.Given as goal

abbrev pub invariant-loop-round : goal.invariant-loop-round
invariant-loop-round l =
    rounds (l.rounds - l._round) (entries_list l.table) (lists_of l.lists.items) ≡ rounds l.rounds (entries_list l.table) (none_closed (entries_list l.table))
