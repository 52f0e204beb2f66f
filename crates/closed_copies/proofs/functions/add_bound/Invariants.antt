use Rattle.std.proofs.Common.{◌≡◌, ◌++◌, drop}
use Rattle.std.specs.Prelude.{flat_map}
use Rattle.closed_copies.specs.Table.{bound_of}
use Rattle.closed_copies.specs.Walked.{events_list}
use Rattle.closed_copies.proofs.functions.add_bound.Given as goal

abbrev pub invariant-loop-event : goal.invariant-loop-event
invariant-loop-event l =
    l.numbers.items ++ flat_map bound_of (events_list (drop l.event-index l.events)) ≡ l.initial.numbers.items ++ flat_map bound_of (events_list l.events)
