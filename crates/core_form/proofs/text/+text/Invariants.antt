use Rattle.std.proofs.Common.{◌≡◌, drop}
use Rattle.core_form.specs.TextPage.{page_of}
use Rattle.core_form.proofs.TextLoops.{nodes_on, bindings_on, optionals_on, definitions_on, items_on}
use Rattle.core_form.proofs.text.+text.Given as goal

abbrev pub invariant-write_nodes-loop-node : goal.invariant-write_nodes-loop-node
invariant-write_nodes-loop-node l =
    nodes_on l.source (page_of l.page) (drop l.node-index l.nodes) ≡ nodes_on l.source (page_of l.initial.page) l.nodes

abbrev pub invariant-write_bindings-loop-binding : goal.invariant-write_bindings-loop-binding
invariant-write_bindings-loop-binding l =
    bindings_on l.source (page_of l.page) (drop l.binding-index l.bindings) ≡ bindings_on l.source (page_of l.initial.page) l.bindings

abbrev pub invariant-write_optionals-loop-optional : goal.invariant-write_optionals-loop-optional
invariant-write_optionals-loop-optional l =
    optionals_on l.source (page_of l.page) (drop l.optional-index l.optionals) ≡ optionals_on l.source (page_of l.initial.page) l.optionals

abbrev pub invariant-write_definitions-loop-definition : goal.invariant-write_definitions-loop-definition
invariant-write_definitions-loop-definition l =
    definitions_on l.source (page_of l.page) (drop l.definition-index l.definitions) ≡ definitions_on l.source (page_of l.initial.page) l.definitions

abbrev pub invariant-write_items-loop-item : goal.invariant-write_items-loop-item
invariant-write_items-loop-item l =
    items_on l.source (page_of l.page) (drop l.item-index l.items) ≡ items_on l.source (page_of l.initial.page) l.items
