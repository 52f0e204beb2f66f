use Rattle.std.proofs.Common.{◌≡◌, ◌++◌, drop}
use Rattle.std.specs.Prelude.{flat_map}
use Rattle.closed_copies.specs.Table.{tag_of}
use Rattle.closed_copies.specs.Walked.{events_list, tags_list}
use Rattle.closed_copies.proofs.functions.tags_in.Given as goal

abbrev pub invariant-loop-event : goal.invariant-loop-event
invariant-loop-event l =
    tags_list l.tags.items ++ flat_map tag_of (events_list (drop l.event-index l.events)) ≡ flat_map tag_of (events_list l.events)
