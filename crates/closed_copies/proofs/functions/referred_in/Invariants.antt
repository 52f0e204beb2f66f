use Rattle.std.proofs.Common.{◌≡◌, ◌++◌, drop}
use Rattle.std.specs.Prelude.{flat_map}
use Rattle.closed_copies.specs.Table.{referred_of}
use Rattle.closed_copies.specs.Walked.{events_list, tags_list}
use Rattle.closed_copies.proofs.functions.referred_in.Given as goal

abbrev pub invariant-loop-event : goal.invariant-loop-event
invariant-loop-event l =
    l.numbers.items ++ flat_map (referred_of (tags_list l.tags)) (events_list (drop l.event-index l.events)) ≡ flat_map (referred_of (tags_list l.tags)) (events_list l.events)
