use Rattle.std.proofs.Common.{◌≡◌, ◌++◌, drop}
use Rattle.std.specs.Prelude.{flat_map}
use Rattle.closed_copies.specs.Table.{local_entry}
use Rattle.closed_copies.specs.Walked.{events_list, tags_list, entries_list}
use Rattle.closed_copies.proofs.functions.add_local.Given as goal

abbrev pub invariant-loop-event : goal.invariant-loop-event
invariant-loop-event l =
    entries_list l.table.items ++ flat_map (local_entry (tags_list l.tags) l.functions) (events_list (drop l.event-index l.events)) ≡ entries_list l.initial.table.items ++ flat_map (local_entry (tags_list l.tags) l.functions) (events_list l.events)
