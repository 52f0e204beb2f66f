use Rattle.std.proofs.Common.{◌≡◌, ◌++◌, drop}
use Rattle.core_form.specs.Facts.{binding_parameters}
use Rattle.core_form.specs.ListReading.{bindings_list}
use Rattle.closed_copies.specs.Events.{parameter_events}
use Rattle.closed_copies.specs.Walked.{events_list}
use Rattle.closed_copies.proofs.walk.note_bindings.Given as goal

abbrev pub invariant-loop-binding : goal.invariant-loop-binding
invariant-loop-binding l =
    events_list l.events.items ++ parameter_events (binding_parameters (bindings_list (drop l.binding-index l.bindings))) ≡ events_list l.initial.events.items ++ parameter_events (binding_parameters (bindings_list l.bindings))
