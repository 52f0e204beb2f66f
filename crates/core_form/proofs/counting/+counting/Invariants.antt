use Rattle.std.proofs.Common.{◌≡◌, drop}
use Rattle.core_form.specs.Counting.{with_bindings, with_cores, with_definitions, with_items, with_optionals}
use Rattle.core_form.specs.ListReading.{bindings_list}
use Rattle.core_form.specs.Reading.{cores_list}
use Rattle.core_form.specs.ListReading.{definitions_list}
use Rattle.core_form.specs.ListReading.{items_list}
use Rattle.core_form.specs.ListReading.{optionals_list}
use Rattle.core_form.proofs.counting.+counting.Given as goal

abbrev pub invariant-add_all-loop-part : goal.invariant-add_all-loop-part
invariant-add_all-loop-part l =
    with_cores l.total (cores_list (drop l.part-index l.parts)) ≡ with_cores l.fn.total (cores_list l.parts)

abbrev pub invariant-add_bindings-loop-binding : goal.invariant-add_bindings-loop-binding
invariant-add_bindings-loop-binding l =
    with_bindings l.total (bindings_list (drop l.binding-index l.bindings)) ≡ with_bindings l.fn.total (bindings_list l.bindings)

abbrev pub invariant-add_optionals-loop-optional : goal.invariant-add_optionals-loop-optional
invariant-add_optionals-loop-optional l =
    with_optionals l.total (optionals_list (drop l.optional-index l.optionals)) ≡ with_optionals l.fn.total (optionals_list l.optionals)

abbrev pub invariant-add_definitions-loop-definition : goal.invariant-add_definitions-loop-definition
invariant-add_definitions-loop-definition l =
    with_definitions l.total (definitions_list (drop l.definition-index l.definitions)) ≡ with_definitions l.fn.total (definitions_list l.definitions)

abbrev pub invariant-add_items-loop-item : goal.invariant-add_items-loop-item
invariant-add_items-loop-item l =
    with_items l.total (items_list (drop l.item-index l.items)) ≡ with_items l.fn.total (items_list l.items)
