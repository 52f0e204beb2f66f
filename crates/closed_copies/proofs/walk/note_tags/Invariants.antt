use Rattle.std.proofs.Common.{◌≡◌, ◌++◌, drop}
use Rattle.core_form.specs.ListReading.{items_list}
use Rattle.closed_copies.specs.Events.{tag_events}
use Rattle.closed_copies.specs.Walked.{events_list}
use Rattle.closed_copies.proofs.walk.note_tags.Given as goal

abbrev pub invariant-loop-item : goal.invariant-loop-item
invariant-loop-item l =
    events_list l.events.items ++ tag_events l.tagbody (items_list (drop l.item-index l.items)) ≡ events_list l.initial.events.items ++ tag_events l.tagbody (items_list l.items)
