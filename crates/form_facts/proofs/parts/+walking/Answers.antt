use Rattle.std.specs.Prelude.{option_map, [], ◌∷◌}
use Rattle.std.proofs.Common.{ap, sym, ◌∙◌, ◌++◌}
use Rattle.core_form.specs.declared.tree.Lambda.{out-Lambda}
use Rattle.core_form.specs.Reading.{parameter_of, core_of, cores_list, lambda_of}
use Rattle.core_form.specs.ListReading.{parameters_list, bindings_list, optionals_list, definitions_list, items_list}
use Rattle.core_form.specs.Facts.{gather_all, gather_bindings, gather_optionals, gather_definitions, gather_items}
use Rattle.form_facts.specs.Parts.{makes, node_parts, function_parts, lambda_parts, parts}
use Rattle.form_facts.specs.Read.{parts_list}
use Rattle.form_facts.proofs.NodeParts.{carry, at_same, further, as_read, by_parts, row_let, row_labels, row_tagbody, of_parts, of_call, of_lambda}
use Rattle.form_facts.proofs.parts.+walking.Goals as goal

pub walk-returns-in_ok-walk_bindings-in-Let : goal.walk-returns-in_ok-walk_bindings-in-Let
walk-returns-in_ok-walk_bindings-in-Let t c =
    let old = parts_list c.args.parts.now.items in
    let mid = parts_list c.note_node.new.parts.items in
    let one = parts_list c.walk_bindings.new.parts.items in
    let new = parts_list c.walk-in-Let.new.parts.items in
    let read = as_read c.args.core.now _ _ c.in-Let.is (c.reads_nodes.ensures.bindings _ c.in-Let.bindings c.in-Let.body) in
    let values = at_same (λ bs. gather_bindings node_parts function_parts (bindings_list bs)) one mid _ _ c.deref-in-Let.ensures.value c.in_ok-walk_bindings-in-Let.ensures in
    carry c.walk-in-Let.result new one old (parts (core_of c.deref-in-Let-2.result.now)) (parts (core_of c.args.core.now))
    (λ h. by_parts old mid new _ c.args.core.now _ read (row_let c.args.core.now.place (bindings_list c.in-Let.bindings.items) (core_of c.in-Let.body.value)) c.in_ok-note_node.ensures
    (further mid one new _ _ values (at_same (λ e. parts (core_of e)) new one _ _ c.deref-in-Let-2.ensures h)))
    c.walk-in-Let.ensures

pub walk-returns-in_ok-walk_definitions-in-Labels : goal.walk-returns-in_ok-walk_definitions-in-Labels
walk-returns-in_ok-walk_definitions-in-Labels t c =
    let old = parts_list c.args.parts.now.items in
    let mid = parts_list c.note_node.new.parts.items in
    let one = parts_list c.walk_definitions.new.parts.items in
    let new = parts_list c.walk-in-Labels.new.parts.items in
    let read = as_read c.args.core.now _ _ c.in-Labels.is (c.reads_nodes.ensures.functions _ c.in-Labels.definitions c.in-Labels.body) in
    let functions = at_same (λ ds. gather_definitions node_parts function_parts (definitions_list ds)) one mid _ _ c.deref-in-Labels.ensures.value c.in_ok-walk_definitions-in-Labels.ensures in
    carry c.walk-in-Labels.result new one old (parts (core_of c.deref-in-Labels-2.result.now)) (parts (core_of c.args.core.now))
    (λ h. by_parts old mid new _ c.args.core.now _ read (row_labels c.args.core.now.place (definitions_list c.in-Labels.definitions.items) (core_of c.in-Labels.body.value)) c.in_ok-note_node.ensures
    (further mid one new _ _ functions (at_same (λ e. parts (core_of e)) new one _ _ c.deref-in-Labels-2.ensures h)))
    c.walk-in-Labels.ensures

pub walk-returns-in-Tagbody : goal.walk-returns-in-Tagbody
walk-returns-in-Tagbody t c =
    let old = parts_list c.args.parts.now.items in
    let mid = parts_list c.note_node.new.parts.items in
    let new = parts_list c.walk_items.new.parts.items in
    let read = as_read c.args.core.now _ _ c.in-Tagbody.is (c.reads_nodes.ensures.items _ c.in-Tagbody.items) in
    carry c.walk_items.result new mid old (gather_items node_parts function_parts (items_list c.deref-in-Tagbody.result.now)) (parts (core_of c.args.core.now))
    (λ h. by_parts old mid new _ c.args.core.now _ read (row_tagbody c.args.core.now.place (items_list c.in-Tagbody.items.items)) c.in_ok-note_node.ensures
    (at_same (λ is. gather_items node_parts function_parts (items_list is)) new mid _ _ c.deref-in-Tagbody.ensures.value h))
    c.walk_items.ensures

pub walk-returns-in_ok-walk-in-Funcall : goal.walk-returns-in_ok-walk-in-Funcall
walk-returns-in_ok-walk-in-Funcall t c =
    let old = parts_list c.args.parts.now.items in
    let mid = parts_list c.note_node.new.parts.items in
    let one = parts_list c.walk-in-Funcall.new.parts.items in
    let new = parts_list c.walk_all.new.parts.items in
    let called = at_same (λ e. parts (core_of e)) one mid _ _ c.deref-in-Funcall.ensures c.in_ok-walk-in-Funcall.ensures in
    carry c.walk_all.result new one old (gather_all node_parts function_parts (cores_list c.deref-in-Funcall-2.result.now)) (parts (core_of c.args.core.now))
    (λ h. of_call c.reads_nodes.ensures.funcall c.reads_nodes.ensures.apply c.reads_nodes.ensures.with_values old mid new c.args.core.now c.in-Funcall.function c.in-Funcall.cores c.in-Funcall.is c.in_ok-note_node.ensures
    (further mid one new _ _ called (at_same (λ es. gather_all node_parts function_parts (cores_list es)) new one _ _ c.deref-in-Funcall-2.ensures.value h)))
    c.walk_all.ensures

pub walk-returns-in-Progn : goal.walk-returns-in-Progn
walk-returns-in-Progn t c =
    let old = parts_list c.args.parts.now.items in
    let mid = parts_list c.note_node.new.parts.items in
    let new = parts_list c.walk_all-in-Progn.new.parts.items in
    carry c.walk_all-in-Progn.result new mid old (gather_all node_parts function_parts (cores_list c.deref-in-Progn.result.now)) (parts (core_of c.args.core.now))
    (λ h. of_parts c.reads_lists.ensures.sequence c.reads_nodes.ensures.values c.reads_nodes.ensures.global c.reads_nodes.ensures.local c.reads_lists.ensures.call old mid new c.args.core.now c.in-Progn.cores c.in-Progn.is c.in_ok-note_node.ensures
    (at_same (λ es. gather_all node_parts function_parts (cores_list es)) new mid _ _ c.deref-in-Progn.ensures.value h))
    c.walk_all-in-Progn.ensures

pub walk_lambda-returns : goal.walk_lambda-returns
walk_lambda-returns t c =
    let o = out-Lambda c.args.lambda.now in
    let old = parts_list c.args.parts.now.items in
    let one = parts_list c.note.new.parts.items in
    let two = parts_list c.walk_optionals.new.parts.items in
    let new = parts_list c.walk.new.parts.items in
    let read = c.reads_nodes.ensures.lambda c.args.lambda.now in
    let own = at_same (λ l. makes l ∷ []) one old _ _ read c.in_ok-note.ensures in
    let defaults = at_same (λ os. gather_optionals node_parts function_parts (optionals_list os)) two one _ _ c.deref.ensures.value c.in_ok-walk_optionals.ensures in
    carry c.walk.result new two old (parts (core_of c.deref-2.result.now)) (lambda_parts (lambda_of c.args.lambda.now))
    (λ h. of_lambda old one two new o.number (parameters_list o.required.items) (optionals_list o.optional.items) (option_map parameter_of o.rest) (core_of o.body.value)
    own defaults (at_same (λ e. parts (core_of e)) new two _ _ c.deref-2.ensures h)
    ∙ sym (ap (λ l. old ++ lambda_parts l) read))
    c.walk.ensures
