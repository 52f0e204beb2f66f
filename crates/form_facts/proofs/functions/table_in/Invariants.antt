use Rattle.std.proofs.Common.{◌≡◌, ◌++◌, drop}
use Rattle.std.specs.Prelude.{flat_map}
use Rattle.closed_copies.specs.Table.{local_entry}
use Rattle.closed_copies.specs.Walked.{events_list, tags_list, entries_list}
use Rattle.form_facts.proofs.functions.table_in.Given as goal

abbrev pub invariant-loop-event : goal.invariant-loop-event
invariant-loop-event l =
    entries_list l.table.items ++ flat_map (local_entry (tags_list l.tags) l.locals) (events_list (drop l.event-index l.events)) ≡ flat_map (local_entry (tags_list l.tags) l.locals) (events_list l.events)
