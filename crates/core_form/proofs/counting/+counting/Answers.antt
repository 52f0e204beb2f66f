use Rattle.std.proofs.Common.{ap, sym, ◌∙◌}
use Rattle.std.specs.Prelude.{option_map}
use Rattle.core_form.specs.declared.tree.Lambda.{out-Lambda}
use Rattle.core_form.specs.Reading.{parameter_of, core_of, cores_list}
use Rattle.core_form.specs.ListReading.{parameters_list, bindings_list, optionals_list, definitions_list, items_list}
use Rattle.core_form.specs.Counting.{with_core, with_cores, with_bindings, with_definitions, with_items, with_parameters, with_optionals, with_given, with_lambda}
use Rattle.core_form.proofs.NodeReading.{reads_let, reads_labels, reads_tagbody, reads_lambda}
use Rattle.core_form.proofs.NodeTotals.{by_node, by_parts, of_parts, of_call}
use Rattle.core_form.proofs.counting.+counting.Goals as goal

pub add_nodes-returns-in-Let : goal.add_nodes-returns-in-Let
add_nodes-returns-in-Let t c =
    let values = by_parts (λ m bs. with_bindings m (bindings_list bs)) _ _ _ _ _ c.plus-more.ensures c.deref-in-Let-2.ensures.value c.add_bindings.ensures in
    by_node c.args.total c.args.core.now _ _ _ c.in-Let.is (reads_let _ c.in-Let.bindings c.in-Let.body)
    (by_parts (λ m e. with_core m (core_of e)) _ _ _ _ _ values c.deref-in-Let.ensures c.add_nodes-in-Let.ensures)

pub add_nodes-returns-in-Labels : goal.add_nodes-returns-in-Labels
add_nodes-returns-in-Labels t c =
    let functions = by_parts (λ m ds. with_definitions m (definitions_list ds)) _ _ _ _ _ c.plus-more.ensures c.deref-in-Labels-2.ensures.value c.add_definitions.ensures in
    by_node c.args.total c.args.core.now _ _ _ c.in-Labels.is (reads_labels _ c.in-Labels.definitions c.in-Labels.body)
    (by_parts (λ m e. with_core m (core_of e)) _ _ _ _ _ functions c.deref-in-Labels.ensures c.add_nodes-in-Labels.ensures)

pub add_nodes-returns-in-Tagbody : goal.add_nodes-returns-in-Tagbody
add_nodes-returns-in-Tagbody t c =
    by_node c.args.total c.args.core.now _ _ _ c.in-Tagbody.is (reads_tagbody _ c.in-Tagbody.items)
    (by_parts (λ m is. with_items m (items_list is)) _ _ _ _ _ c.plus-more.ensures c.deref-in-Tagbody.ensures.value c.add_items.ensures)

pub add_nodes-returns-in-Funcall : goal.add_nodes-returns-in-Funcall
add_nodes-returns-in-Funcall t c =
    let called = by_parts (λ m e. with_core m (core_of e)) _ _ _ _ _ c.plus-more.ensures c.deref-in-Funcall-2.ensures c.add_nodes-in-Funcall.ensures in
    let all = by_parts (λ m es. with_cores m (cores_list es)) _ _ _ _ _ called c.deref-in-Funcall.ensures.value c.add_all.ensures in
    of_call c.args.total c.args.core.now c.in-Funcall.function c.in-Funcall.parts _ c.in-Funcall.is all

pub add_nodes-returns-in-Progn : goal.add_nodes-returns-in-Progn
add_nodes-returns-in-Progn t c =
    let all = by_parts (λ m es. with_cores m (cores_list es)) _ _ _ _ _ c.plus-more.ensures c.deref-in-Progn.ensures.value c.add_all-in-Progn.ensures in
    of_parts c.args.total c.args.core.now c.in-Progn.parts _ c.in-Progn.is all

pub add_lambda-returns : goal.add_lambda-returns
add_lambda-returns t c =
    let o = out-Lambda c.args.lambda.now in
    let required = by_parts (λ m xs. with_parameters m (parameters_list xs)) _ _ _ _ _ c.plus.ensures c.deref.ensures.value c.add_parameters-total.ensures in
    let optional = by_parts (λ m os. with_optionals m (optionals_list os)) _ _ _ _ _ required c.deref-2.ensures.value c.add_optionals-total.ensures in
    let rest = c.add_given-total.ensures ∙ ap (λ m. with_given m (option_map parameter_of o.rest)) optional in
    by_parts (λ m e. with_core m (core_of e)) _ _ _ _ _ rest c.deref-3.ensures c.add_nodes.ensures ∙ sym (ap (with_lambda c.args.total) (reads_lambda c.args.lambda.now))
