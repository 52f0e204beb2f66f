use Rattle.std.proofs.Common.{◌≡◌, ◌++◌, drop}
use Rattle.core_form.specs.Reading.{cores_list}
use Rattle.core_form.specs.ListReading.{bindings_list, optionals_list, definitions_list, items_list}
use Rattle.core_form.specs.Facts.{gather_all, gather_bindings, gather_optionals, gather_definitions, gather_items}
use Rattle.form_facts.specs.Parts.{node_parts, function_parts}
use Rattle.form_facts.specs.Read.{parts_list}
use Rattle.form_facts.proofs.parts.+walking.Given as goal

abbrev pub invariant-walk_all-loop-core : goal.invariant-walk_all-loop-core
invariant-walk_all-loop-core l =
    parts_list l.parts.items ++ gather_all node_parts function_parts (cores_list (drop l.core-index l.cores)) ≡ parts_list l.initial.parts.items ++ gather_all node_parts function_parts (cores_list l.cores)

abbrev pub invariant-walk_bindings-loop-binding : goal.invariant-walk_bindings-loop-binding
invariant-walk_bindings-loop-binding l =
    parts_list l.parts.items ++ gather_bindings node_parts function_parts (bindings_list (drop l.binding-index l.bindings)) ≡ parts_list l.initial.parts.items ++ gather_bindings node_parts function_parts (bindings_list l.bindings)

abbrev pub invariant-walk_optionals-loop-optional : goal.invariant-walk_optionals-loop-optional
invariant-walk_optionals-loop-optional l =
    parts_list l.parts.items ++ gather_optionals node_parts function_parts (optionals_list (drop l.optional-index l.optionals)) ≡ parts_list l.initial.parts.items ++ gather_optionals node_parts function_parts (optionals_list l.optionals)

abbrev pub invariant-walk_definitions-loop-definition : goal.invariant-walk_definitions-loop-definition
invariant-walk_definitions-loop-definition l =
    parts_list l.parts.items ++ gather_definitions node_parts function_parts (definitions_list (drop l.definition-index l.definitions)) ≡ parts_list l.initial.parts.items ++ gather_definitions node_parts function_parts (definitions_list l.definitions)

abbrev pub invariant-walk_items-loop-item : goal.invariant-walk_items-loop-item
invariant-walk_items-loop-item l =
    parts_list l.parts.items ++ gather_items node_parts function_parts (items_list (drop l.item-index l.items)) ≡ parts_list l.initial.parts.items ++ gather_items node_parts function_parts (items_list l.items)
