use Rattle.std.proofs.Common.{◌≡◌, ◌++◌, drop}
use Rattle.core_form.specs.Facts.{optional_parameters}
use Rattle.core_form.specs.ListReading.{optionals_list}
use Rattle.closed_copies.specs.Events.{parameter_events}
use Rattle.closed_copies.specs.Walked.{events_list}
use Rattle.closed_copies.proofs.walk.note_optionals.Given as goal

abbrev pub invariant-loop-optional : goal.invariant-loop-optional
invariant-loop-optional l =
    events_list l.events.items ++ parameter_events (optional_parameters (optionals_list (drop l.optional-index l.optionals))) ≡ events_list l.initial.events.items ++ parameter_events (optional_parameters (optionals_list l.optionals))
