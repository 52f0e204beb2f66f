use Rattle.core_form.specs.Tree as tree
use Rattle.core_form.specs.declared.tree.Form.TheVariants as variant
use Rattle.core_form.specs.Facts.{binding_parameters, has_number}
use Rattle.core_form.specs.ListReading.{bindings_list, definitions_list, items_list}
use Rattle.core_form.specs.Reading.{core_of, cores_list}
use Rattle.core_form.specs.Step.{all_lexical}
use Rattle.core_form.specs.declared.tree.Binding.{Binding as Binding'}
use Rattle.core_form.specs.declared.tree.Core.{Core as Core'}
use Rattle.core_form.specs.declared.tree.Item.{Item as Item'}
use Rattle.icr_convert.proofs.Atoms.{is_converts, set_function_converts, set_global_converts, set_local_converts, the_converts}
use Rattle.icr_convert.proofs.Calling.{call_on, apply, call_given, call_global, call_in_place, call_local, call_with_values, cores_count, funcall_any, funcall_known}
use Rattle.icr_convert.proofs.Choosing.{end_of_first, in_first, last_split, not_none, within_first, charged_part, choice, effects_end, effects_more, last_of_forms, sequence}
use Rattle.icr_convert.proofs.Growing.{beside_trans}
use Rattle.icr_convert.proofs.Leaving.{block_converts, catch_converts, entry_made, part_of, return_converts, throw_converts, unwind_converts, values_before_converts}
use Rattle.icr_convert.proofs.Letting.{all_initials, labels_converts, let_converts, more_initials}
use Rattle.icr_convert.proofs.NodeReading.{as_read, as_read_now, list_and_form_read, list_read, three_read, two_read}
use Rattle.icr_convert.proofs.Operands.{TakesOperands, gathers_end, gathers_more, operands_end, operands_more, primitive, pushed, values}
use Rattle.icr_convert.proofs.Tagging.{all_converted, first_and, rest_at, step_converted, tag_converted, tagbody_converts}
use Rattle.icr_convert.proofs.Values.{typed_value_taken, value_taken}
use Rattle.icr_convert.proofs.converter.Converter.+convert.Goals.{binding-else-all_lexical, binding-then-all_lexical, block-else-not-is_cell, block-then-not-is_cell, items-in-Step+in_ok-convert-in-Step, items-in-Tag+in-len1-up+in_ok-go_on-in-Tag}
use Rattle.icr_convert.specs.Converting.{Converts, KnowsFunction, Takes, TakesInitials, TakesTyped, rest_of, types_of}
use Rattle.icr_convert.specs.declared.setting.Setting.{Setting}
use Rattle.icr_graph.specs.declared.nodes.Charges.{Charges}
use Rattle.ir_ids.specs.Entries.{map_of}
use Rattle.lisp_base.specs.Reading.{spec_of}
use Rattle.lisp_base.specs.Spec.{Spec}
use Rattle.std.proofs.Common.{refl, take, ◌-◌, Bool, List, Option, [], ap, append-nil, arith, drop, false, length, not, subst, sym, ℕ, ◌&&◌, ◌+◌, ◌∙◌, ◌∷◌, ◌≡◌}
use Rattle.std.proofs.lemmas.Result.{on_ok_weaker}
use Rattle.std.specs.Prelude.{option_map}
use Rattle.icr_convert.proofs.converter.Converter.+convert.Goals as goal

-- all
pub all-returns : goal.all-returns
all-returns t c =
    let parts = c.args.parts.now in
    let last = c.index-parts-count.result in
    on_ok_weaker c.convert.result
    (last_of_forms c.args.names.now c.args.setting c.args.place parts (take (length parts - 1) parts) last c.in_ok-cost.cost (last_split parts (length parts - 1) last (not_none (length parts) c.is_empty.result c.is_empty.ensures c.if-is_empty.false) c.index-parts-count.is) c.in_ok-cost.ensures)
    c.convert.ensures

-- apply
pub apply-returns : goal.apply-returns
apply-returns t c =
    let form = c.args.form.now in
    let place = form.place in
    let parts = c.as_slice-parts.result.now in
    let of = λ (xs : List Core') (x : Core'). tree.Apply place (core_of x) (cores_list xs) in
    let read = list_and_form_read place of form.form (variant.Apply c.in-Apply.function c.in-Apply.parts) c.as_slice-parts.ensures.value c.deref.ensures (c.reads_nodes.ensures.apply place c.in-Apply.function c.in-Apply.parts) c.in-Apply.is in
    as_read c.call_on.result c.args.names.now c.args.setting (core_of form) (of parts c.deref.result.now) c.args.self.now.built c.call_on.new.self.built read
    (on_ok_weaker c.call_on.result
    (λ call. apply c.args.names.now c.args.setting place (core_of c.deref.result.now) (cores_list parts)
    (call_given c.args.names.now c.args.setting place (core_of c.deref.result.now) (cores_list parts) _ c.in_ok-cost.cost c.in_ok-first.first c.in_ok-cost.ensures c.in_ok-first.ensures call))
    c.call_on.ensures)

-- binding
pub binding-returns : goal.binding-returns
binding-returns t c =
    let st = c.args.setting in
    let form = c.args.form.now in
    let place = form.place in
    let of = λ (xs : List Binding') (x : Core'). tree.Let place (bindings_list xs) (core_of x) in
    let read = list_and_form_read place of form.form (variant.Let c.in-Let.bindings c.in-Let.body) c.as_slice-bindings.ensures.value c.deref.ensures (c.reads_nodes.ensures.bindings place c.in-Let.bindings c.in-Let.body) c.in-Let.is in
    let t = st.tail in
    let bs = bindings_list c.as_slice-bindings.result.now in
    let lexical = all_lexical (binding_parameters bs) in
    let tail : c.if-all_lexical.tail ≡ (lexical && t) = elim c.if-all_lexical.branch [
      | binding-then-all_lexical w ↦ subst (λ (k : Bool). c.if-all_lexical.tail ≡ (k && t)) (sym w.if-all_lexical.true ∙ c.all_lexical.ensures) w.tail-is
      | binding-else-all_lexical w ↦ subst (λ (k : Bool). c.if-all_lexical.tail ≡ (k && t)) (sym w.if-all_lexical.false ∙ c.all_lexical.ensures) (w.tail-is ∙ w.if-all_lexical.false)
    ] in
    let part = c.in_ok-part.ensures ∙ ap (λ (k : Bool). part_of st k st.word c.left_after.result) tail ∙ ap (λ (n : ℕ). part_of st (lexical && t) st.word n) c.left_after.ensures in
    let initials = subst (λ (l : List ℕ). TakesInitials c.args.names.now bs c.in_ok-cost.cost c.args.self.now.built c.initials.new.self.built l) (sym c.as_slice.ensures) c.in_ok-values.ensures in
    as_read c.unbind_all.result c.args.names.now st (core_of form) (of c.as_slice-bindings.result.now c.deref.result.now) c.args.self.now.built c.unbind_all.new.self.built read
    (on_ok_weaker c.unbind_all.result (let_converts st place bs (core_of c.deref.result.now) c.in_ok-cost.ensures initials c.in_ok-entries.ensures part c.in_ok-convert.ensures) c.unbind_all.ensures)

-- block
pub block-returns : goal.block-returns
block-returns t c =
    let t = c.args.setting.tail in
    let tail : c.if-not-is_cell.tail ≡ (not (has_number c.args.number c.args.names.now.facts.cells) && t) = elim c.if-not-is_cell.branch [ block-then-not-is_cell w ↦ subst (λ (k : Bool). c.if-not-is_cell.tail ≡ (not k && t)) (sym w.if-not-is_cell.true ∙ c.is_cell.ensures) w.tail-is | block-else-not-is_cell w ↦ subst (λ (k : Bool). c.if-not-is_cell.tail ≡ (not k && t)) (sym w.if-not-is_cell.false ∙ c.is_cell.ensures) (w.tail-is ∙ ap not w.if-not-is_cell.false) ] in
    on_ok_weaker c.go_on.result (block_converts c.args.setting c.args.place c.args.number c.args.name (core_of c.args.body.now) c.in_ok-variable.ensures c.in_ok-land.ensures c.in_ok-one_more.ensures
    (entry_made c.new.ensures c.in_ok-entry.ensures) (c.in_ok-part.ensures ∙ ap (λ (k : Bool). part_of c.args.setting k false 0) tail) c.in_ok-convert.ensures c.in_ok-exit.ensures) c.go_on.ensures

-- call_on
pub call_on-returns : goal.call_on-returns
call_on-returns t c =
    let given = c.in_ok-all.ensures ∙ ap (λ (ks : List ℕ). c.args.first ∷ ks) c.as_slice.ensures in
    call_on c.args.names.now c.args.setting c.args.place (cores_list c.args.parts.now) c.args.operation c.args.first c.in_ok-operands.operands c.in_ok-all.all given c.in_ok-operands.ensures c.in_ok-give.ensures

-- call_global
pub call_global-returns : goal.call_global-returns
call_global-returns t c =
    call_global c.args.names.now c.args.setting c.args.place c.args.name (cores_list c.args.parts.now) c.in_ok-cost.cost c.left_after-left.result c.in_ok-operands.operands
    c.in_ok-cost.ensures c.left_after-left.ensures c.in_ok-operands.ensures c.in_ok-give.ensures

-- call_local
pub call_local-returns : goal.call_local-returns
call_local-returns t c =
    let closed = c.in_ok-closed.closed in
    let given = c.in_ok-all.ensures ∙ ap (λ (ks : List ℕ). closed ∷ ks) c.as_slice.ensures in
    on_ok_weaker c.call_known.result
    (call_local c.args.names.now c.args.setting c.args.place c.args.number (cores_list c.args.parts.now) c.in_ok-cost.cost c.left_after-left.result c.in_ok-made.made c.in_ok-operands.operands c.in_ok-all.all
    c.in_ok-cost.ensures c.left_after-left.ensures given c.in_ok-made.ensures c.in_ok-operands.ensures c.in_ok-closed.ensures c.in_ok-plain.ensures)
    c.call_known.ensures

-- call_with_values
pub call_with_values-returns : goal.call_with_values-returns
call_with_values-returns t c =
    let form = c.args.form.now in
    let place = form.place in
    let parts = c.as_slice-parts.result.now in
    let of = λ (xs : List Core') (x : Core'). tree.MvCall place (core_of x) (cores_list xs) in
    let read = list_and_form_read place of form.form (variant.MvCall c.in-MvCall.function c.in-MvCall.parts) c.as_slice-parts.ensures.value c.deref.ensures (c.reads_nodes.ensures.with_values place c.in-MvCall.function c.in-MvCall.parts) c.in-MvCall.is in
    as_read_now c.args.names.now c.args.setting (core_of form) (of parts c.deref.result.now) c.args.self.now.built c.give.new.self.built read
    (call_with_values c.args.names.now c.args.setting place (core_of c.deref.result.now) (cores_list parts) c.in_ok-cost.cost c.in_ok-function.function c.in_ok-operands.operands
    c.in_ok-cost.ensures c.in_ok-function.ensures c.in_ok-entries.ensures c.in_ok-operands.ensures c.in_ok-give.ensures)

-- catch
pub catch-returns : goal.catch-returns
catch-returns t c =
    let form = c.args.form.now in
    let place = form.place in
    let of = λ (x y : Core'). tree.Catch place (core_of x) (core_of y) in
    let read = two_read place of form.form (variant.Catch c.in-Catch.tag c.in-Catch.body) c.deref.ensures c.deref-2.ensures refl c.in-Catch.is in
    as_read c.go_on.result c.args.names.now c.args.setting (core_of form) (of c.deref.result.now c.deref-2.result.now) c.args.self.now.built c.go_on.new.self read
    (on_ok_weaker c.go_on.result (catch_converts c.args.setting place (core_of c.deref.result.now) (core_of c.deref-2.result.now) c.in_ok-one_more.ensures c.in_ok-tag.ensures c.in_ok-land.ensures
    (entry_made c.new.ensures c.in_ok-entry.ensures) c.in_ok-part.ensures c.in_ok-convert.ensures c.in_ok-exit.ensures) c.go_on.ensures)

-- choice
pub choice-returns : goal.choice-returns
choice-returns t c =
    let blocks = beside_trans (beside_trans c.in_ok-yes_block.ensures c.in_ok-no_block.ensures) c.in_ok-join.ensures in
    let form = c.args.form.now in
    let place = form.place in
    let of = λ (x y z : Core'). tree.If place (core_of x) (core_of y) (core_of z) in
    let read = three_read place of form.form (variant.If c.in-If.test c.in-If.yes c.in-If.no) c.deref.ensures c.deref-2.ensures c.deref-3.ensures refl c.in-If.is in
    as_read c.go_on-2.result c.args.names.now c.args.setting (core_of form) (of c.deref.result.now c.deref-2.result.now c.deref-3.result.now) c.args.self.now.built c.go_on-2.new.self read
    (on_ok_weaker c.go_on-2.result
    (choice c.args.names.now c.args.setting c.in_ok-arm.arm c.in_ok-other_arm.other_arm place (core_of c.deref.result.now) (core_of c.deref-2.result.now) (core_of c.deref-3.result.now) c.in_ok-cost.cost
    c.in_ok-cost.ensures c.in_ok-arm.ensures c.in_ok-other_arm.ensures c.in_ok-test.ensures c.in_ok-plain.ensures blocks c.in_ok-fork.ensures c.in_ok-convert.ensures c.in_ok-go_on.ensures c.in_ok-convert-2.ensures)
    c.go_on-2.ensures)

-- convert
pub convert-returns-in-Progn : goal.convert-returns-in-Progn
convert-returns-in-Progn t c =
    let place = c.args.form.now.place in
    as_read c.sequence.result c.args.names.now c.args.setting (core_of c.args.form.now) (tree.Progn place (cores_list c.deref-in-Progn.result.now)) c.args.self.now.built c.sequence.new.self.built
    (list_read place (λ (xs : List Core'). tree.Progn place (cores_list xs)) c.args.form.now.form (variant.Progn c.in-Progn.parts) c.deref-in-Progn.ensures.value (c.reads_lists.ensures.sequence place c.in-Progn.parts) c.in-Progn.is)
    c.sequence.ensures

pub convert-returns-in-CallLocal : goal.convert-returns-in-CallLocal
convert-returns-in-CallLocal t c =
    let place = c.args.form.now.place in
    as_read c.call_local.result c.args.names.now c.args.setting (core_of c.args.form.now) (tree.CallLocal place c.in-CallLocal.number (cores_list c.deref-in-CallLocal.result.now)) c.args.self.now.built c.call_local.new.self.built
    (list_read place (λ (xs : List Core'). tree.CallLocal place c.in-CallLocal.number (cores_list xs)) c.args.form.now.form (variant.CallLocal c.in-CallLocal.number c.in-CallLocal.parts) c.deref-in-CallLocal.ensures.value (c.reads_nodes.ensures.local place c.in-CallLocal.number c.in-CallLocal.parts) c.in-CallLocal.is)
    c.call_local.ensures

pub convert-returns-in-CallGlobal : goal.convert-returns-in-CallGlobal
convert-returns-in-CallGlobal t c =
    let place = c.args.form.now.place in
    as_read c.call_global.result c.args.names.now c.args.setting (core_of c.args.form.now) (tree.CallGlobal place c.in-CallGlobal.name (cores_list c.deref-in-CallGlobal.result.now)) c.args.self.now.built c.call_global.new.self.built
    (list_read place (λ (xs : List Core'). tree.CallGlobal place c.in-CallGlobal.name (cores_list xs)) c.args.form.now.form (variant.CallGlobal c.in-CallGlobal.name c.in-CallGlobal.parts) c.deref-in-CallGlobal.ensures.value (c.reads_nodes.ensures.global place c.in-CallGlobal.name c.in-CallGlobal.parts) c.in-CallGlobal.is)
    c.call_global.ensures

pub convert-returns-in-Primitive : goal.convert-returns-in-Primitive
convert-returns-in-Primitive t c =
    let place = c.args.form.now.place in
    as_read c.primitive.result c.args.names.now c.args.setting (core_of c.args.form.now) (tree.Primitive place c.in-Primitive.primitive (cores_list c.deref-in-Primitive.result.now)) c.args.self.now.built c.primitive.new.self.built
    (list_read place (λ (xs : List Core'). tree.Primitive place c.in-Primitive.primitive (cores_list xs)) c.args.form.now.form (variant.Primitive c.in-Primitive.primitive c.in-Primitive.parts) c.deref-in-Primitive.ensures.value (c.reads_lists.ensures.call place c.in-Primitive.primitive c.in-Primitive.parts) c.in-Primitive.is)
    c.primitive.ensures

pub convert-returns-in-Tagbody : goal.convert-returns-in-Tagbody
convert-returns-in-Tagbody t c =
    let place = c.args.form.now.place in
    as_read c.tagbody.result c.args.names.now c.args.setting (core_of c.args.form.now) (tree.Tagbody place (items_list c.deref-in-Tagbody.result.now)) c.args.self.now.built c.tagbody.new.self.built
    (list_read place (λ (xs : List Item'). tree.Tagbody place (items_list xs)) c.args.form.now.form (variant.Tagbody c.in-Tagbody.items) c.deref-in-Tagbody.ensures.value (c.reads_nodes.ensures.items place c.in-Tagbody.items) c.in-Tagbody.is)
    c.tagbody.ensures

pub convert-returns-in-Values : goal.convert-returns-in-Values
convert-returns-in-Values t c =
    let place = c.args.form.now.place in
    as_read c.values.result c.args.names.now c.args.setting (core_of c.args.form.now) (tree.Values place (cores_list c.deref-in-Values.result.now)) c.args.self.now.built c.values.new.self.built
    (list_read place (λ (xs : List Core'). tree.Values place (cores_list xs)) c.args.form.now.form (variant.Values c.in-Values.parts) c.deref-in-Values.ensures.value (c.reads_nodes.ensures.values place c.in-Values.parts) c.in-Values.is)
    c.values.ensures

-- effects
pub effects-loop-number-preserved : goal.effects-loop-number-preserved
effects-loop-number-preserved t c b left rest =
    let names = c.args.names.now in
    let firsts = take c.args.count c.args.parts.now in
    let number = c.loop-number.number in
    let part = c.index-parts-number.result in
    let one = subst (λ (z : Setting). Converts names z (core_of part) c.loop-number.self.built c.convert.new.self.built) c.effect.ensures c.in_ok-convert.ensures in
    c.loop-number.invariant b left
    (effects_more names firsts number part c.loop-number.left left (within_first c.args.parts.now c.args.count number (omega arith) (omega arith))
    (in_first c.args.parts.now c.args.count number part (omega arith) c.index-parts-number.is) one rest)

pub effects-returns : goal.effects-returns
effects-returns t c =
    let end = effects_end c.args.names.now (take c.args.count c.args.parts.now) c.loop-number.number c.loop-number.left c.loop-number.self.built (end_of_first c.args.parts.now c.args.count c.loop-number.number (omega arith)) in
    c.loop-number.invariant c.loop-number.self.built c.loop-number.left end

-- funcall
pub funcall-returns-in-Some : goal.funcall-returns-in-Some
funcall-returns-in-Some t c =
    let form = c.args.form.now in
    let place = form.place in
    let parts = c.as_slice-parts.result.now in
    let of = λ (xs : List Core') (x : Core'). tree.Funcall place (core_of x) (cores_list xs) in
    let read = list_and_form_read place of form.form (variant.Funcall c.in-Funcall.function c.in-Funcall.parts) c.as_slice-parts.ensures.value c.deref.ensures (c.reads_nodes.ensures.funcall place c.in-Funcall.function c.in-Funcall.parts) c.in-Funcall.is in
    let knows = subst (λ (f : Option ℕ). KnowsFunction c.args.names.now (core_of c.deref.result.now) (length parts) f) c.in-Some.is c.in_ok-known.ensures in
    as_read c.funcall_known.result c.args.names.now c.args.setting (core_of form) (of parts c.deref.result.now) c.args.self.now.built c.funcall_known.new.self.built read
    (on_ok_weaker c.funcall_known.result
    (funcall_known c.args.names.now c.args.setting place (core_of c.deref.result.now) (cores_list parts) c.in-Some.made (length parts) (cores_count parts) knows)
    c.funcall_known.ensures)

pub funcall-returns-in_ok-first-in-None : goal.funcall-returns-in_ok-first-in-None
funcall-returns-in_ok-first-in-None t c =
    let names = c.args.names.now in
    let st = c.args.setting in
    let form = c.args.form.now in
    let place = form.place in
    let parts = c.as_slice-parts.result.now in
    let function = c.deref.result.now in
    let of = λ (xs : List Core') (x : Core'). tree.Funcall place (core_of x) (cores_list xs) in
    let read = list_and_form_read place of form.form (variant.Funcall c.in-Funcall.function c.in-Funcall.parts) c.as_slice-parts.ensures.value c.deref.ensures (c.reads_nodes.ensures.funcall place c.in-Funcall.function c.in-Funcall.parts) c.in-Funcall.is in
    let knows = subst (λ (f : Option ℕ). KnowsFunction names (core_of function) (length parts) f) c.in-None.is c.in_ok-known.ensures in
    let first = subst (λ (x : Core'). Takes names false (core_of x) c.in_ok-cost-in-None.cost c.args.self.now.built c.value_of.new.self.built c.in_ok-first-in-None.first) (c.deref-in-None.ensures ∙ sym c.deref.ensures) c.in_ok-first-in-None.ensures in
    as_read c.call_on.result names st (core_of form) (of parts function) c.args.self.now.built c.call_on.new.self.built read
    (on_ok_weaker c.call_on.result
    (λ call. funcall_any names st place (core_of function) (cores_list parts) (length parts) (cores_count parts) knows
    (call_given names st place (core_of function) (cores_list parts) _ c.in_ok-cost-in-None.cost c.in_ok-first-in-None.first c.in_ok-cost-in-None.ensures first call))
    c.call_on.ensures)

-- funcall_known
pub funcall_known-returns : goal.funcall_known-returns
funcall_known-returns t c =
    let closed = c.in_ok-closed.closed in
    let given = c.in_ok-all.ensures ∙ ap (λ (ks : List ℕ). closed ∷ ks) c.as_slice.ensures in
    let cost : c.in_ok-cost.cost ≡ c.args.setting.cost + 2 = omega (arith, c.in_ok-cost.ensures, c.in_ok-first_cost.ensures) in
    on_ok_weaker c.call_known.result
    (call_in_place c.args.names.now c.args.setting c.args.place c.args.function (cores_list c.args.parts.now) c.in_ok-cost.cost closed c.in_ok-operands.operands c.in_ok-all.all
    cost given c.in_ok-closed.ensures c.in_ok-plain.ensures c.in_ok-operands.ensures)
    c.call_known.ensures

-- gather
pub gather-loop-part-preserved : goal.gather-loop-part-preserved
gather-loop-part-preserved t c b rest =
    c.loop-part.invariant b
    (gathers_more c.args.names.now c.args.place c.args.parts.now c.loop-part.part-index c.part-item.result c.in_ok-values.values c.new.result c.new.ensures (omega arith) c.part-item.is c.in_ok-values.ensures c.in_ok-plain.ensures rest)

pub gather-returns : goal.gather-returns
gather-returns t c = c.loop-part.invariant c.loop-part.self.built (gathers_end c.args.names.now c.args.place c.args.parts.now c.loop-part.part-index c.loop-part.self.built (omega arith))

-- initials
pub initials-loop-binding-preserved : goal.initials-loop-binding-preserved
initials-loop-binding-preserved t c =
    more_initials c.args.bindings.now c.loop-binding.binding-index c.binding-item.result c.loop-binding.cost c.args.cost c.loop-binding.values c.loop-binding-test.true c.binding-item.is c.is_word-word.ensures c.in_ok-value_of.ensures
    c.in_ok-push.ensures.ok c.loop-binding.invariant

pub initials-returns : goal.initials-returns
initials-returns t c = all_initials c.args.bindings.now c.loop-binding.binding-index c.loop-binding.cost c.args.cost c.loop-binding.values c.loop-binding-test.false c.loop-binding.invariant

-- is
pub is-returns : goal.is-returns
is-returns t c =
    is_converts c.args.names.now c.args.setting (spec_of c.args.spec.now) c.in_ok-written.written (core_of c.args.value.now) c.in_ok-size.size c.in_ok-size.ensures c.in_ok-written.ensures c.one-operands.ensures c.in_ok-one_more.ensures c.in_ok-value.ensures c.in_ok-give.ensures

-- items
pub items-loop-item-init : goal.items-loop-item-init
items-loop-item-init t c = record { so_far = λ d then. then; tags = c.requires }

pub items-loop-item-preserved : goal.items-loop-item-preserved
items-loop-item-preserved t c =
    let is = c.args.items.now in
    let i = c.loop-item.item-index in
    elim c.match-item.branch [
      | items-in-Tag+in-len1-up+in_ok-go_on-in-Tag w ↦ rest_at (λ k. (w.rest-is k).now) (λ k. (w.self-is k).built)
          (tag_converted is i c.item-item.result w.tag-item.result c.args.tags.now c.loop-item-test.true c.item-item.is w.in-Tag.is (first_and c.loop-item.rest.now w.tag-item.result w.in-len1-up.len_at_least w.tag-item.is)
          w.in_ok-go_on-in-Tag.ensures c.loop-item.invariant)
      | items-in-Step+in_ok-convert-in-Step w ↦ rest_at (λ k. (w.rest-is k).now) (λ k. (w.self-is k).built)
          (step_converted is i c.item-item.result w.in-Step.form c.args.tags.now c.loop-item.rest.now c.loop-item-test.true c.item-item.is w.in-Step.is w.effect.ensures w.in_ok-convert-in-Step.ensures c.loop-item.invariant)
    ]

pub items-returns : goal.items-returns
items-returns t c = all_converted c.args.items.now c.loop-item.item-index c.args.tags.now c.loop-item.rest.now c.loop-item-test.false c.loop-item.invariant

-- labels
pub labels-returns : goal.labels-returns
labels-returns t c =
    on_ok_weaker c.convert.result (labels_converts c.args.setting c.args.place (definitions_list c.args.definitions.now) (core_of c.args.body.now) c.in_ok-cost.ensures c.in_ok-charges.ensures) c.convert.ensures

-- operands
pub operands-loop-number-preserved : goal.operands-loop-number-preserved
operands-loop-number-preserved t c b ks rest =
    let names = c.args.names.now in
    let word = c.args.word in
    let place = c.args.place in
    let parts = c.args.parts.now in
    let types = types_of c.args.primitive in
    let further = rest_of c.args.primitive in
    let old = c.args.self.now.built in
    let before = c.loop-number.self.built in
    let after = c.typed_value_of.new.self.built in
    let form = c.index-parts-number.result in
    let k = c.in_ok-typed_value_of.field-0 in
    let value = subst (λ (t : Option Spec). TakesTyped names word place t (core_of form) c.loop-number.left before after k) c.in_ok-spec.ensures c.in_ok-typed_value_of.ensures in
    let all = c.loop-number.invariant b (k ∷ ks) (operands_more names word place parts c.loop-number.number form types further c.loop-number.left k ks (omega arith) c.index-parts-number.is value rest) in
    subst (λ (xs : List ℕ). TakesOperands names word place (cores_list parts) types further c.args.cost old b xs) (pushed c.loop-number.operands c.push.new.self k ks c.in_ok-push.ensures.ok) all

pub operands-returns : goal.operands-returns
operands-returns t c =
    let names = c.args.names.now in
    let word = c.args.word in
    let place = c.args.place in
    let parts = c.args.parts.now in
    let types = types_of c.args.primitive in
    let further = rest_of c.args.primitive in
    let now = c.loop-number.self.built in
    let all = c.loop-number.invariant now [] (operands_end names word place parts c.loop-number.number (drop c.loop-number.number types) further c.loop-number.left now (omega arith)) in
    subst (λ (xs : List ℕ). TakesOperands names word place (cores_list parts) types further c.args.cost c.args.self.now.built now xs) (append-nil c.loop-number.operands) all

-- primitive
pub primitive-returns : goal.primitive-returns
primitive-returns t c =
    primitive c.args.names.now c.args.setting c.takes_words-word.result c.args.primitive c.args.place (cores_list c.args.parts.now) c.in_ok-cost.cost c.left_after-left.result c.in_ok-operands.operands
    c.in_ok-cost.ensures c.takes_words-word.ensures c.left_after-left.ensures c.in_ok-operands.ensures c.in_ok-give.ensures

-- return_from
pub return_from-returns : goal.return_from-returns
return_from-returns t c =
    on_ok_weaker c.exit.result (return_converts c.args.setting c.args.place c.args.number (core_of c.args.value.now) (sym c.block_name.ensures ∙ c.in-Some.is) c.in_ok-one_more.ensures c.in_ok-values.ensures c.in_ok-entry.ensures) c.exit.ensures

-- sequence
pub sequence-returns : goal.sequence-returns
sequence-returns t c =
    let st = c.args.setting in
    let cost = c.in_ok-cost.cost in
    on_ok_weaker c.all.result
    (sequence c.args.names.now st (charged_part st cost c.in_ok-charges.charges) c.args.place (cores_list c.args.parts.now) cost c.in_ok-cost.ensures (ap (λ (x : Charges). charged_part st cost x) c.in_ok-charges.ensures))
    c.all.ensures

-- set_function
pub set_function-returns : goal.set_function-returns
set_function-returns t c =
    set_function_converts c.args.names.now c.args.setting c.args.name (core_of c.args.value.now) c.one-operands.ensures c.in_ok-one_more.ensures c.in_ok-value.ensures c.in_ok-give.ensures

-- set_global
pub set_global-returns : goal.set_global-returns
set_global-returns t c =
    set_global_converts c.args.names.now c.args.setting c.args.name (core_of c.args.value.now) c.one-operands.ensures c.in_ok-one_more.ensures c.in_ok-value.ensures c.in_ok-give.ensures

-- set_local
pub set_local-returns : goal.set_local-returns
set_local-returns t c =
    set_local_converts c.args.names.now c.args.setting c.is_word-word.result c.args.number (core_of c.args.value.now) c.in_ok-variable.ensures c.is_word-word.ensures c.in_ok-one_more.ensures c.in_ok-value.ensures c.in_ok-give.ensures

-- tagbody
pub tagbody-returns : goal.tagbody-returns
tagbody-returns t c =
    let variable = ap (λ (n : ℕ). map_of c.args.names.now.variables.items n) (sym c.tagbody_number-number.ensures) ∙ c.in_ok-variable.ensures in
    let listed = c.from_vec-listed.ensures ∙ c.in_ok-from_slice.ensures.items ∙ c.as_slice.ensures.value ∙ sym c.as_slice-2.ensures.value in
    tagbody_converts c.args.setting c.args.place (items_list c.args.items.now) variable c.in_ok-tags.ensures.beside c.in_ok-one_more.ensures listed (entry_made c.new.ensures c.in_ok-entry.ensures)
    c.in_ok-items.ensures c.in_ok-exit.ensures c.in_ok-leaf.ensures

-- the
pub the-returns : goal.the-returns
the-returns t c =
    the_converts c.args.names.now c.args.setting (spec_of c.args.spec.now) c.in_ok-written.written (core_of c.args.value.now) c.in_ok-size.size c.in_ok-size.ensures c.in_ok-written.ensures c.one-operands.ensures c.in_ok-cost.ensures c.in_ok-value.ensures c.in_ok-give.ensures

-- throw
pub throw-returns : goal.throw-returns
throw-returns t c =
    let form = c.args.form.now in
    let place = form.place in
    let of = λ (x y : Core'). tree.Throw place (core_of x) (core_of y) in
    let read = two_read place of form.form (variant.Throw c.in-Throw.tag c.in-Throw.value) c.deref.ensures c.deref-2.ensures refl c.in-Throw.is in
    as_read c.exit.result c.args.names.now c.args.setting (core_of form) (of c.deref.result.now c.deref-2.result.now) c.args.self.now.built c.exit.new.self.built read
    (on_ok_weaker c.exit.result (throw_converts c.args.setting place (core_of c.deref.result.now) (core_of c.deref-2.result.now) c.in_ok-one_more.ensures c.in_ok-tag.ensures c.in_ok-values.ensures) c.exit.ensures)

-- typed_value_of
pub typed_value_of-returns : goal.typed_value_of-returns
typed_value_of-returns t c =
    typed_value_taken c.args.names.now c.args.word c.args.place (option_map spec_of c.args.spec) (core_of c.args.form.now) c.args.cost
    c.args.self.now.built c.typed_cont.new.self.built c.convert.new.self.built c.in_ok-to.to c.in_ok-to.ensures
    (subst (λ (st : Setting). Converts c.args.names.now st (core_of c.args.form.now) c.typed_cont.new.self.built c.convert.new.self.built) c.value.ensures c.in_ok-convert.ensures)

-- unwind
pub unwind-returns : goal.unwind-returns
unwind-returns t c =
    let form = c.args.form.now in
    let place = form.place in
    let of = λ (x y : Core'). tree.Unwind place (core_of x) (core_of y) in
    let read = two_read place of form.form (variant.Unwind c.in-Unwind.body c.in-Unwind.cleanup) c.deref.ensures c.deref-2.ensures refl c.in-Unwind.is in
    as_read c.give_by_exit.result c.args.names.now c.args.setting (core_of form) (of c.deref.result.now c.deref-2.result.now) c.args.self.now.built c.give_by_exit.new.self.built read
    (on_ok_weaker c.give_by_exit.result (unwind_converts c.args.setting place (core_of c.deref.result.now) (core_of c.deref-2.result.now) c.in_ok-begins.ensures c.in_ok-one_more.ensures
    (entry_made c.new.ensures c.in_ok-entry.ensures) c.in_ok-values.ensures c.in_ok-exit.ensures c.in_ok-begin.ensures c.effect.ensures c.in_ok-convert.ensures) c.give_by_exit.ensures)

-- value_of
pub value_of-returns : goal.value_of-returns
value_of-returns t c =
    value_taken c.args.names.now c.args.word (core_of c.args.form.now) c.args.cost c.in_ok-to.ensures
    (subst (λ (st : Setting). Converts c.args.names.now st (core_of c.args.form.now) c.cont.new.self c.convert.new.self.built) c.value.ensures c.in_ok-convert.ensures)

-- values
pub values-returns : goal.values-returns
values-returns t c =
    values c.args.names.now c.args.setting c.args.place (cores_list c.args.parts.now) c.in_ok-cost.cost c.left_after-left.result c.in_ok-operands.operands
    c.in_ok-cost.ensures c.left_after-left.ensures c.in_ok-operands.ensures c.in_ok-give.ensures

-- values_before
pub values_before-returns : goal.values_before-returns
values_before-returns t c =
    let form = c.args.form.now in
    let place = form.place in
    let of = λ (x y : Core'). tree.MvProg1 place (core_of x) (core_of y) in
    let read = two_read place of form.form (variant.MvProg1 c.in-MvProg1.first c.in-MvProg1.then) c.deref.ensures c.deref-2.ensures refl c.in-MvProg1.is in
    as_read c.give_by_exit.result c.args.names.now c.args.setting (core_of form) (of c.deref.result.now c.deref-2.result.now) c.args.self.now.built c.give_by_exit.new.self.built read
    (on_ok_weaker c.give_by_exit.result (values_before_converts c.args.setting place (core_of c.deref.result.now) (core_of c.deref-2.result.now) c.in_ok-one_more.ensures c.in_ok-values.ensures
    (entry_made c.new.ensures c.in_ok-entry.ensures) c.effect.ensures c.in_ok-convert.ensures) c.give_by_exit.ensures)
