use Rattle.std.proofs.Common.{◌≡◌, ◌++◌, drop}
use Rattle.core_form.specs.ListReading.{parameters_list}
use Rattle.closed_copies.specs.Events.{parameter_events}
use Rattle.closed_copies.specs.Walked.{events_list}
use Rattle.closed_copies.proofs.walk.note_parameters.Given as goal

abbrev pub invariant-loop-parameter : goal.invariant-loop-parameter
invariant-loop-parameter l =
    events_list l.events.items ++ parameter_events (parameters_list (drop l.parameter-index l.parameters)) ≡ events_list l.initial.events.items ++ parameter_events (parameters_list l.parameters)
