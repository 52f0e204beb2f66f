use Rattle.std.proofs.Common.{◌≡◌, ◌++◌, drop}
use Rattle.core_form.specs.Reading.{cores_list}
use Rattle.core_form.specs.ListReading.{bindings_list, optionals_list, definitions_list, items_list}
use Rattle.core_form.specs.Facts.{gather_all, gather_bindings, gather_optionals, gather_definitions, gather_items}
use Rattle.closed_copies.specs.Events.{node_events, function_events}
use Rattle.closed_copies.specs.Walked.{events_list}
use Rattle.closed_copies.proofs.walk.+walking.Given as goal

abbrev pub invariant-walk_all-loop-part : goal.invariant-walk_all-loop-part
invariant-walk_all-loop-part l =
    events_list l.events.items ++ gather_all node_events function_events (cores_list (drop l.part-index l.parts)) ≡ events_list l.initial.events.items ++ gather_all node_events function_events (cores_list l.parts)

abbrev pub invariant-walk_bindings-loop-binding : goal.invariant-walk_bindings-loop-binding
invariant-walk_bindings-loop-binding l =
    events_list l.events.items ++ gather_bindings node_events function_events (bindings_list (drop l.binding-index l.bindings)) ≡ events_list l.initial.events.items ++ gather_bindings node_events function_events (bindings_list l.bindings)

abbrev pub invariant-walk_optionals-loop-optional : goal.invariant-walk_optionals-loop-optional
invariant-walk_optionals-loop-optional l =
    events_list l.events.items ++ gather_optionals node_events function_events (optionals_list (drop l.optional-index l.optionals)) ≡ events_list l.initial.events.items ++ gather_optionals node_events function_events (optionals_list l.optionals)

abbrev pub invariant-walk_definitions-loop-definition : goal.invariant-walk_definitions-loop-definition
invariant-walk_definitions-loop-definition l =
    events_list l.events.items ++ gather_definitions node_events function_events (definitions_list (drop l.definition-index l.definitions)) ≡ events_list l.initial.events.items ++ gather_definitions node_events function_events (definitions_list l.definitions)

abbrev pub invariant-walk_items-loop-item : goal.invariant-walk_items-loop-item
invariant-walk_items-loop-item l =
    events_list l.events.items ++ gather_items node_events function_events (items_list (drop l.item-index l.items)) ≡ events_list l.initial.events.items ++ gather_items node_events function_events (items_list l.items)
