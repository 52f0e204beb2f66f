use Rattle.std.proofs.Common.{◌≡◌, drop, take, []}
use Rattle.core_form.specs.Reading.{cores_list}
use Rattle.core_form.specs.Checked.{are_checked, values_checked, optionals_checked, optionals_numbers, definitions_checked, items_checked}
use Rattle.core_form.specs.ListReading.{bindings_list, optionals_list, definitions_list, items_list}
use Rattle.core_form.specs.Checking.{scope_of}
use Rattle.core_form.proofs.checking.+checking.Given as goal

abbrev pub invariant-are_checked-loop-part : goal.invariant-are_checked-loop-part
invariant-are_checked-loop-part l = are_checked (scope_of l.scope) (cores_list (drop l.part-index l.parts)) ≡ are_checked (scope_of l.scope) (cores_list l.parts)

abbrev pub invariant-are_values_checked-loop-binding : goal.invariant-are_values_checked-loop-binding
invariant-are_values_checked-loop-binding l =
    values_checked (scope_of l.scope) (bindings_list (drop l.binding-index l.bindings)) ≡ values_checked (scope_of l.scope) (bindings_list l.bindings)

abbrev pub invariant-are_optionals_checked-loop-i : goal.invariant-are_optionals_checked-loop-i
invariant-are_optionals_checked-loop-i l =
    optionals_checked (scope_of l.scope) (optionals_numbers (optionals_list (take l.i l.optionals))) (optionals_list (drop l.i l.optionals))
    ≡ optionals_checked (scope_of l.scope) [] (optionals_list l.optionals)

abbrev pub invariant-are_definitions_checked-loop-definition : goal.invariant-are_definitions_checked-loop-definition
invariant-are_definitions_checked-loop-definition l =
    definitions_checked (scope_of l.scope) (definitions_list (drop l.definition-index l.definitions)) ≡ definitions_checked (scope_of l.scope) (definitions_list l.definitions)

abbrev pub invariant-are_items_checked-loop-item : goal.invariant-are_items_checked-loop-item
invariant-are_items_checked-loop-item l = items_checked (scope_of l.scope) (items_list (drop l.item-index l.items)) ≡ items_checked (scope_of l.scope) (items_list l.items)
