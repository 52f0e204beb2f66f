use Rattle.std.proofs.Common.{◌≡◌, drop}
use Rattle.core_form.specs.Reading.{cores_list}
use Rattle.core_form.specs.ListReading.{bindings_list, optionals_list, definitions_list, items_list}
use Rattle.program_size.specs.Walk.{with_cores, with_bindings, with_optionals, with_definitions, with_items}
use Rattle.program_size.proofs.mentioned.+walking.Given as goal

abbrev pub invariant-note_all-loop-part : goal.invariant-note_all-loop-part
invariant-note_all-loop-part l =
    with_cores l.found.items (cores_list (drop l.part-index l.parts)) ≡ with_cores l.initial.found.items (cores_list l.parts)

abbrev pub invariant-note_bindings-loop-binding : goal.invariant-note_bindings-loop-binding
invariant-note_bindings-loop-binding l =
    with_bindings l.found.items (bindings_list (drop l.binding-index l.bindings)) ≡ with_bindings l.initial.found.items (bindings_list l.bindings)

abbrev pub invariant-note_optionals-loop-optional : goal.invariant-note_optionals-loop-optional
invariant-note_optionals-loop-optional l =
    with_optionals l.found.items (optionals_list (drop l.optional-index l.optionals)) ≡ with_optionals l.initial.found.items (optionals_list l.optionals)

abbrev pub invariant-note_definitions-loop-definition : goal.invariant-note_definitions-loop-definition
invariant-note_definitions-loop-definition l =
    with_definitions l.found.items (definitions_list (drop l.definition-index l.definitions)) ≡ with_definitions l.initial.found.items (definitions_list l.definitions)

abbrev pub invariant-note_items-loop-item : goal.invariant-note_items-loop-item
invariant-note_items-loop-item l =
    with_items l.found.items (items_list (drop l.item-index l.items)) ≡ with_items l.initial.found.items (items_list l.items)
