use Rattle.std.proofs.Common.{◌≡◌, ℕ, ◌≤◌, List, ◌∷◌, ◌++◌, length, map, take, OnOk, arith, ap, sym, subst, ◌∙◌}
use Rattle.std.proofs.lemmas.Grind.{common_steps}
use Rattle.core_form.specs.declared.tree.Core.{Core as Core'}
use Rattle.core_form.specs.declared.tree.Binding.{Binding as Binding'}
use Rattle.core_form.specs.declared.tree.Definition.{Definition as Definition'}
use Rattle.core_form.specs.declared.tree.Item.{Item as Item'}
use Rattle.core_form.specs.declared.tree.Parameter.{Parameter as Parameter'}
use Rattle.core_form.specs.declared.tree.Optional.{Optional as Optional'}
use Rattle.core_form.specs.declared.tree.Form.TheViews.{out-Lambda}
use Rattle.core_form.specs.declared.text_page.Known.{Known}
use Rattle.std.specs.Prelude.{option_map}
use Rattle.core_form.specs.Tree.{Lambda, lambda}
use Rattle.core_form.specs.Reading.{core_of, cores_list, lambda_of, parameter_of}
use Rattle.core_form.specs.ListReading.{bindings_list, optionals_list, definitions_list, items_list}
use Rattle.core_form.specs.TextNames.{binding_names, function_names, tag_names}
use Rattle.core_form.specs.Text.{group, core_text, core_texts, binding_texts, definition_texts, item_texts, lambda_text}
use Rattle.core_form.specs.TextParts.{part_texts, let_texts, labels_texts}
use Rattle.core_form.specs.TextPage.{Page, page_of, put, puts, bound, left_with}
use Rattle.core_form.proofs.ReadingLemmas.{reads_progn, reads_primitive}
use Rattle.core_form.proofs.NodeReading.{reads_lambda, reads_let, reads_labels, reads_call_local, reads_call_global, reads_funcall, reads_apply, reads_mv_call, reads_tagbody, reads_values}
use Rattle.core_form.proofs.TextNodes.{listed_text, node_is}
use Rattle.core_form.proofs.TextLoops.{optionals_more, bindings_all, definitions_all, items_all}
use Rattle.core_form.proofs.TextWalk.{shut, node_written, let_written, labels_written, items_written, lambda_written}
use Rattle.core_form.proofs.text.+text.Goals as goal

-- ---- the parts of a node that holds a list

pub write_parts-returns-in-Progn : goal.write_parts-returns-in-Progn
write_parts-returns-in-Progn t c =
    let st = c.args.source.now in
    let ns = c.args.page.now.names.items in
    let e : part_texts st ns (core_of c.args.core.now) ≡ core_texts st ns (cores_list c.deref-in-Progn.result.now) =
    ap (part_texts st ns) (node_is c.args.core.now _ _ c.in-Progn.is (reads_progn _ c.in-Progn.parts))
    ∙ ap (λ (xs : List Core'). core_texts st ns (cores_list xs)) (sym c.deref-in-Progn.ensures.value) in
    grind (arith, common_steps, e)

pub write_parts-returns-in-Values : goal.write_parts-returns-in-Values
write_parts-returns-in-Values t c =
    let st = c.args.source.now in
    let ns = c.args.page.now.names.items in
    let e : part_texts st ns (core_of c.args.core.now) ≡ core_texts st ns (cores_list c.deref-in-Values.result.now) =
    ap (part_texts st ns) (node_is c.args.core.now _ _ c.in-Values.is (reads_values _ c.in-Values.parts))
    ∙ ap (λ (xs : List Core'). core_texts st ns (cores_list xs)) (sym c.deref-in-Values.ensures.value) in
    grind (arith, common_steps, e)

pub write_parts-returns-in-CallLocal : goal.write_parts-returns-in-CallLocal
write_parts-returns-in-CallLocal t c =
    let st = c.args.source.now in
    let ns = c.args.page.now.names.items in
    let e : part_texts st ns (core_of c.args.core.now) ≡ core_texts st ns (cores_list c.deref-in-CallLocal.result.now) =
    ap (part_texts st ns) (node_is c.args.core.now _ _ c.in-CallLocal.is (reads_call_local _ c.in-CallLocal.field-0 c.in-CallLocal.parts))
    ∙ ap (λ (xs : List Core'). core_texts st ns (cores_list xs)) (sym c.deref-in-CallLocal.ensures.value) in
    grind (arith, common_steps, e)

pub write_parts-returns-in-CallGlobal : goal.write_parts-returns-in-CallGlobal
write_parts-returns-in-CallGlobal t c =
    let st = c.args.source.now in
    let ns = c.args.page.now.names.items in
    let e : part_texts st ns (core_of c.args.core.now) ≡ core_texts st ns (cores_list c.deref-in-CallGlobal.result.now) =
    ap (part_texts st ns) (node_is c.args.core.now _ _ c.in-CallGlobal.is (reads_call_global _ c.in-CallGlobal.field-0 c.in-CallGlobal.parts))
    ∙ ap (λ (xs : List Core'). core_texts st ns (cores_list xs)) (sym c.deref-in-CallGlobal.ensures.value) in
    grind (arith, common_steps, e)

pub write_parts-returns-in-Primitive : goal.write_parts-returns-in-Primitive
write_parts-returns-in-Primitive t c =
    let st = c.args.source.now in
    let ns = c.args.page.now.names.items in
    let e : part_texts st ns (core_of c.args.core.now) ≡ core_texts st ns (cores_list c.deref-in-Primitive.result.now) =
    ap (part_texts st ns) (node_is c.args.core.now _ _ c.in-Primitive.is (reads_primitive _ c.in-Primitive.field-0 c.in-Primitive.parts))
    ∙ ap (λ (xs : List Core'). core_texts st ns (cores_list xs)) (sym c.deref-in-Primitive.ensures.value) in
    grind (arith, common_steps, e)

pub write_parts-returns-in_ok-write_node-in-Funcall : goal.write_parts-returns-in_ok-write_node-in-Funcall
write_parts-returns-in_ok-write_node-in-Funcall t c =
    let st = c.args.source.now in
    let ns = c.args.page.now.names.items in
    let at = c.in-Funcall in
    let e : part_texts st ns (core_of c.args.core.now) ≡ core_text st ns (core_of c.deref-in-Funcall.result.now) ∷ core_texts st ns (cores_list c.deref-in-Funcall-2.result.now) =
    ap (part_texts st ns) (node_is c.args.core.now _ _ at.is (reads_funcall _ at.function at.parts))
    ∙ (ap (λ (x : Core'). core_text st ns (core_of x) ∷ core_texts st ns (cores_list at.parts.items)) (sym c.deref-in-Funcall.ensures)
    ∙ ap (λ (xs : List Core'). core_text st ns (core_of c.deref-in-Funcall.result.now) ∷ core_texts st ns (cores_list xs)) (sym c.deref-in-Funcall-2.ensures.value)) in
    grind (arith, common_steps, e)

pub write_parts-returns-in_ok-write_node-in-Apply : goal.write_parts-returns-in_ok-write_node-in-Apply
write_parts-returns-in_ok-write_node-in-Apply t c =
    let st = c.args.source.now in
    let ns = c.args.page.now.names.items in
    let at = c.in-Apply in
    let e : part_texts st ns (core_of c.args.core.now) ≡ core_text st ns (core_of c.deref-in-Apply.result.now) ∷ core_texts st ns (cores_list c.deref-in-Apply-2.result.now) =
    ap (part_texts st ns) (node_is c.args.core.now _ _ at.is (reads_apply _ at.function at.parts))
    ∙ (ap (λ (x : Core'). core_text st ns (core_of x) ∷ core_texts st ns (cores_list at.parts.items)) (sym c.deref-in-Apply.ensures)
    ∙ ap (λ (xs : List Core'). core_text st ns (core_of c.deref-in-Apply.result.now) ∷ core_texts st ns (cores_list xs)) (sym c.deref-in-Apply-2.ensures.value)) in
    grind (arith, common_steps, e)

pub write_parts-returns-in_ok-write_node-in-MvCall : goal.write_parts-returns-in_ok-write_node-in-MvCall
write_parts-returns-in_ok-write_node-in-MvCall t c =
    let st = c.args.source.now in
    let ns = c.args.page.now.names.items in
    let at = c.in-MvCall in
    let e : part_texts st ns (core_of c.args.core.now) ≡ core_text st ns (core_of c.deref-in-MvCall.result.now) ∷ core_texts st ns (cores_list c.deref-in-MvCall-2.result.now) =
    ap (part_texts st ns) (node_is c.args.core.now _ _ at.is (reads_mv_call _ at.function at.parts))
    ∙ (ap (λ (x : Core'). core_text st ns (core_of x) ∷ core_texts st ns (cores_list at.parts.items)) (sym c.deref-in-MvCall.ensures)
    ∙ ap (λ (xs : List Core'). core_text st ns (core_of c.deref-in-MvCall.result.now) ∷ core_texts st ns (cores_list xs)) (sym c.deref-in-MvCall-2.ensures.value)) in
    grind (arith, common_steps, e)

pub write_parts-returns-in-Tagbody : goal.write_parts-returns-in-Tagbody
write_parts-returns-in-Tagbody t c =
    let st = c.args.source.now in
    let ns = c.args.page.now.names.items in
    let e : part_texts st ns (core_of c.args.core.now) ≡ item_texts st (ns ++ tag_names (items_list c.deref-in-Tagbody.result.now)) (items_list c.deref-in-Tagbody.result.now) =
    ap (part_texts st ns) (node_is c.args.core.now _ _ c.in-Tagbody.is (reads_tagbody _ c.in-Tagbody.items))
    ∙ ap (λ (xs : List Item'). item_texts st (ns ++ tag_names (items_list xs)) (items_list xs)) (sym c.deref-in-Tagbody.ensures.value) in
    grind (arith, common_steps, e)

-- ---- a node

pub write_node-returns-in_ok-write_parts-in_default : goal.write_node-returns-in_ok-write_parts-in_default
write_node-returns-in_ok-write_parts-in_default t c =
    let st = c.args.source.now in
    let p0 = page_of c.args.page.now in
    let core = c.args.core.now in
    let e = listed_text st p0.names core.place core.form c.in_default.not-Local c.in_default.not-Lambda in
    let w = node_written st (core_of core) p0 (page_of c.open.new.self) (page_of c.write_head.new.page) (page_of c.write_parts.new.page) c.in_ok-open-in_default.ensures c.in_ok-write_head-in_default.ensures c.in_ok-write_parts-in_default.ensures in
    subst (λ (g : Page). OnOk c.close.result (page_of c.close.new.self ≡ g)) (w ∙ ap (put p0) (sym e)) c.close.ensures

-- ---- what a node binds

pub write_optionals-loop-optional-preserved : goal.write_optionals-loop-optional-preserved
write_optionals-loop-optional-preserved t c =
    optionals_more c.args.source.now c.args.optionals.now c.loop-optional.optional-index c.optional-item.result (page_of c.loop-optional.page) (page_of c.open.new.self) (page_of c.word.new.self) (page_of c.write_parameter.new.page) (page_of c.write_node.new.page) (page_of c.write_flag.new.page) (page_of c.close.new.self) (page_of c.know_variable.new.page) (page_of c.know_given.new.page) _ c.loop-optional-test.true c.optional-item.is c.in_ok-open.ensures c.in_ok-word.ensures c.in_ok-write_parameter.ensures c.in_ok-write_node.ensures c.in_ok-write_flag.ensures c.in_ok-close.ensures c.in_ok-know_variable.ensures c.in_ok-know_given.ensures c.loop-optional.invariant

pub write_items-returns : goal.write_items-returns
write_items-returns t c =
    let p2 = page_of c.loop-item.page in
    let le : length c.args.items.now ≤ c.loop-item.item-index = omega arith in
    items_written c.args.source.now (items_list c.args.items.now) (page_of c.args.page.now) (page_of c.know_tags.new.page) p2 (page_of c.forget.new.self) c.in_ok-know_tags.ensures
    (items_all c.args.source.now c.args.items.now c.loop-item.item-index p2 _ le c.loop-item.invariant)
    (c.forget.ensures ∙ ap (λ (n : ℕ). left_with p2 (take n p2.names)) c.known-outer.ensures)

pub write_bindings-returns : goal.write_bindings-returns
write_bindings-returns t c =
    let st = c.args.source.now in
    let bs = c.args.bindings.now in
    let p0 = page_of c.args.page.now in
    let p2 = page_of c.loop-binding.page in
    let le : length bs ≤ c.loop-binding.binding-index = omega arith in
    let w = shut p0 (page_of c.open.new.self) p2 (λ (ns : List Known). binding_texts st ns (bindings_list bs)) c.in_ok-open.ensures (bindings_all st bs c.loop-binding.binding-index p2 _ le c.loop-binding.invariant) in
    subst (λ (g : Page). OnOk c.close-2.result (page_of c.close-2.new.self ≡ g)) w c.close-2.ensures

pub write_definitions-returns : goal.write_definitions-returns
write_definitions-returns t c =
    let st = c.args.source.now in
    let ds = c.args.definitions.now in
    let p0 = page_of c.args.page.now in
    let p2 = page_of c.loop-definition.page in
    let le : length ds ≤ c.loop-definition.definition-index = omega arith in
    let w = shut p0 (page_of c.open.new.self) p2 (λ (ns : List Known). definition_texts st ns (definitions_list ds)) c.in_ok-open.ensures (definitions_all st ds c.loop-definition.definition-index p2 _ le c.loop-definition.invariant) in
    subst (λ (g : Page). OnOk c.close-2.result (page_of c.close-2.new.self ≡ g)) w c.close-2.ensures

pub write_lambda-returns : goal.write_lambda-returns
write_lambda-returns t c =
    let st = c.args.source.now in
    let p0 = page_of c.args.page.now in
    let p10 = page_of c.close-2.new.self in
    let v = out-Lambda c.args.lambda.now in
    let xs = c.deref.result.now in
    let os = c.deref-2.result.now in
    let e = c.deref-3.result.now in
    let r = option_map parameter_of v.rest in
    let w = lambda_written st v.number (map parameter_of xs) (optionals_list os) r (core_of e) p0 (page_of c.open.new.self) (page_of c.word.new.self) (page_of c.open-2.new.self) (page_of c.write_required.new.page) (page_of c.write_optionals.new.page) (page_of c.write_rest.new.page) (page_of c.know_given.new.page) (page_of c.close.new.self) (page_of c.write_node.new.page) p10 (page_of c.forget.new.self) c.in_ok-open.ensures c.in_ok-word.ensures c.in_ok-open-2.ensures c.in_ok-write_required.ensures c.in_ok-write_optionals.ensures c.in_ok-write_rest.ensures c.in_ok-know_given.ensures c.in_ok-close.ensures c.in_ok-write_node.ensures c.in_ok-close-2.ensures
    (c.forget.ensures ∙ ap (λ (n : ℕ). left_with p10 (take n p10.names)) c.known-outer.ensures) in
    let read : lambda v.number (map parameter_of xs) (optionals_list os) r (core_of e) ≡ lambda_of c.args.lambda.now =
    (ap (λ (ys : List Parameter'). lambda v.number (map parameter_of ys) (optionals_list os) r (core_of e)) c.deref.ensures.value
    ∙ (ap (λ (ys : List Optional'). lambda v.number (map parameter_of v.required.items) (optionals_list ys) r (core_of e)) c.deref-2.ensures.value
    ∙ ap (λ (y : Core'). lambda v.number (map parameter_of v.required.items) (optionals_list v.optional.items) r (core_of y)) c.deref-3.ensures))
    ∙ sym (reads_lambda c.args.lambda.now) in
    w ∙ ap (λ (k : Lambda). put p0 (lambda_text st p0.names k)) read

pub write_parts-returns-in_ok-write_node-in-Let : goal.write_parts-returns-in_ok-write_node-in-Let
write_parts-returns-in_ok-write_node-in-Let t c =
    let st = c.args.source.now in
    let at = c.in-Let in
    let bs = bindings_list at.bindings.items in
    let p0 = page_of c.args.page.now in
    let p1 = page_of c.write_bindings.new.page in
    let p2 = page_of c.know_bindings.new.page in
    let p3 = page_of c.write_node-in-Let.new.page in
    let p4 = page_of c.forget.new.self in
    let e1 : p1 ≡ put p0 (group (binding_texts st p0.names bs)) =
    c.in_ok-write_bindings-in-Let.ensures ∙ ap (λ (xs : List Binding'). put p0 (group (binding_texts st p0.names (bindings_list xs)))) c.deref-in-Let.ensures.value in
    let e2 : p2 ≡ bound p1 (binding_names bs) =
    c.in_ok-know_bindings-in-Let.ensures ∙ ap (λ (xs : List Binding'). bound p1 (binding_names (bindings_list xs))) c.deref-in-Let-2.ensures.value in
    let e3 : p3 ≡ put p2 (core_text st p2.names (core_of at.body.value)) =
    c.in_ok-write_node-in-Let.ensures ∙ ap (λ (x : Core'). put p2 (core_text st p2.names (core_of x))) c.deref-in-Let-3.ensures in
    let e4 : p4 ≡ left_with p3 (take (length p0.names) p3.names) =
    c.forget.ensures ∙ ap (λ (n : ℕ). left_with p3 (take n p3.names)) c.known-outer.ensures in
    let e : part_texts st p0.names (core_of c.args.core.now) ≡ let_texts st p0.names bs (core_of at.body.value) =
    ap (part_texts st p0.names) (node_is c.args.core.now _ _ at.is (reads_let _ at.bindings at.body)) in
    let_written st bs (core_of at.body.value) p0 p1 p2 p3 p4 e1 e2 e3 e4 ∙ ap (puts p0) (sym e)

pub write_parts-returns-in_ok-write_node-in-Labels : goal.write_parts-returns-in_ok-write_node-in-Labels
write_parts-returns-in_ok-write_node-in-Labels t c =
    let st = c.args.source.now in
    let at = c.in-Labels in
    let ds = definitions_list at.definitions.items in
    let p0 = page_of c.args.page.now in
    let p1 = page_of c.know_functions.new.page in
    let p2 = page_of c.write_definitions.new.page in
    let p3 = page_of c.write_node-in-Labels.new.page in
    let p4 = page_of c.forget-in-Labels.new.self in
    let e1 : p1 ≡ bound p0 (function_names ds) =
    c.in_ok-know_functions-in-Labels.ensures ∙ ap (λ (xs : List Definition'). bound p0 (function_names (definitions_list xs))) c.deref-in-Labels.ensures.value in
    let e2 : p2 ≡ put p1 (group (definition_texts st p1.names ds)) =
    c.in_ok-write_definitions-in-Labels.ensures ∙ ap (λ (xs : List Definition'). put p1 (group (definition_texts st p1.names (definitions_list xs)))) c.deref-in-Labels-2.ensures.value in
    let e3 : p3 ≡ put p2 (core_text st p2.names (core_of at.body.value)) =
    c.in_ok-write_node-in-Labels.ensures ∙ ap (λ (x : Core'). put p2 (core_text st p2.names (core_of x))) c.deref-in-Labels-3.ensures in
    let e4 : p4 ≡ left_with p3 (take (length p0.names) p3.names) =
    c.forget-in-Labels.ensures ∙ ap (λ (n : ℕ). left_with p3 (take n p3.names)) c.known-outer-in-Labels.ensures in
    let e : part_texts st p0.names (core_of c.args.core.now) ≡ labels_texts st p0.names ds (core_of at.body.value) =
    ap (part_texts st p0.names) (node_is c.args.core.now _ _ at.is (reads_labels _ at.definitions at.body)) in
    labels_written st ds (core_of at.body.value) p0 p1 p2 p3 p4 e1 e2 e3 e4 ∙ ap (puts p0) (sym e)
