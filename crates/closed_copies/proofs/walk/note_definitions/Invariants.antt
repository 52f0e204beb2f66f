use Rattle.std.proofs.Common.{◌≡◌, ◌++◌, drop}
use Rattle.core_form.specs.ListReading.{definitions_list}
use Rattle.closed_copies.specs.Events.{definition_events}
use Rattle.closed_copies.specs.Walked.{events_list}
use Rattle.closed_copies.proofs.walk.note_definitions.Given as goal

abbrev pub invariant-loop-definition : goal.invariant-loop-definition
invariant-loop-definition l =
    events_list l.events.items ++ definition_events (definitions_list (drop l.definition-index l.definitions)) ≡ events_list l.initial.events.items ++ definition_events (definitions_list l.definitions)
