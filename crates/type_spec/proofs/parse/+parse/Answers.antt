use Rattle.std.proofs.Common.{sym, ◌∙◌}
use Rattle.std.proofs.lemmas.Result.{err_from_is_err_and}
use Rattle.type_spec.proofs.Calls.{no_bounds, no_signed, no_unsigned, no_count, no_item, no_part, more_items, more_parts, more_choices, more_part, no_room, no_form, no_operator}
use Rattle.type_spec.proofs.Parting as parting
use Rattle.type_spec.proofs.parse.+parse.Goals as goal

pub call-returns-in_err-items-in-Member-clause-bad :
    goal.call-returns-in_err-items-in-Member-clause-bad
call-returns-in_err-items-in-Member-clause-bad t c = λ e.
    let p = err_from_is_err_and c.from_residual.result c.from_residual.ensures.1 in
    more_items _ _ _ _ _ c.in-Member.is (c.in_err-items-in-Member.ensures.bad (cc (e, p.1, p.2)))

pub call-returns-in_err-parts-in-And-clause-bad : goal.call-returns-in_err-parts-in-And-clause-bad
call-returns-in_err-parts-in-And-clause-bad t c = λ e.
    let p = err_from_is_err_and c.from_residual-in_err-parts-in-And.result c.from_residual-in_err-parts-in-And.ensures.1 in
    more_parts _ _ _ _ _ c.in-And.is (c.in_err-parts-in-And.ensures.bad (cc (e, p.1, p.2)))

pub call-returns-in_err-parts-in-Or-clause-bad : goal.call-returns-in_err-parts-in-Or-clause-bad
call-returns-in_err-parts-in-Or-clause-bad t c = λ e.
    let p = err_from_is_err_and c.from_residual-in_err-parts-in-Or.result c.from_residual-in_err-parts-in-Or.ensures.1 in
    more_choices _ _ _ _ _ c.in-Or.is (c.in_err-parts-in-Or.ensures.bad (cc (e, p.1, p.2)))

pub call-returns-in_default-clause-bad : goal.call-returns-in_default-clause-bad
call-returns-in_default-clause-bad t c = λ e. no_part _ _ _ _ _ c.in-Not.is (sym c.only_operand.ensures ∙ c.in_default.is)

pub call-returns-in_err-part-in-Not-clause-bad : goal.call-returns-in_err-part-in-Not-clause-bad
call-returns-in_err-part-in-Not-clause-bad t c = λ e.
    let p = err_from_is_err_and c.from_residual-in_err-part-in-Not.result c.from_residual-in_err-part-in-Not.ensures.1 in
    more_part _ _ _ _ _ _ c.in-Not.is (sym c.only_operand.ensures ∙ c.in-Some-only_operand.is) (c.in_err-part-in-Not.ensures.bad (cc (e, p.1, p.2)))

pub call-returns-in-None-clause-bad : goal.call-returns-in-None-clause-bad
call-returns-in-None-clause-bad t c = λ e. no_bounds _ _ _ _ _ c.in-Integer.is (sym c.bounds.ensures ∙ c.in-None.is)

pub call-returns-in-None-width-clause-bad : goal.call-returns-in-None-width-clause-bad
call-returns-in-None-width-clause-bad t c = λ e. no_signed _ _ _ _ _ c.in-Signed.is (sym c.width.ensures ∙ c.in-None-width.is)

pub call-returns-in-None-width-2-clause-bad : goal.call-returns-in-None-width-2-clause-bad
call-returns-in-None-width-2-clause-bad t c = λ e. no_unsigned _ _ _ _ _ c.in-Unsigned.is (sym c.width-in-Unsigned.ensures ∙ c.in-None-width-2.is)

pub call-returns-in-None-count-clause-bad : goal.call-returns-in-None-count-clause-bad
call-returns-in-None-count-clause-bad t c = λ e. no_count _ _ _ _ _ c.in-Mod.is (sym c.count.ensures ∙ c.in-None-count.is)

pub call-returns-in-None-only_item-clause-bad : goal.call-returns-in-None-only_item-clause-bad
call-returns-in-None-only_item-clause-bad t c = λ e. no_item _ _ _ _ _ c.in-Eql.is (sym c.only_item.ensures ∙ c.in-None-only_item.is)

pub parts-returns-in_default-clause-bad : goal.parts-returns-in_default-clause-bad
parts-returns-in_default-clause-bad t c = λ e.
    parting.no_cons _ _ _ _ _ _ _ _ c.loop-alloc.invariant (sym c.is_nil.ensures ∙ c.loop-alloc-test.true) (sym c.cons_of.ensures ∙ c.in_default.is)

pub parts-returns-in_err-part-clause-bad : goal.parts-returns-in_err-part-clause-bad
parts-returns-in_err-part-clause-bad t c = λ e.
    let p = err_from_is_err_and c.from_residual.result c.from_residual.ensures.1 in
    parting.no_part _ _ _ _ _ c.in-Some.first c.in-Some.others _ _ c.loop-alloc.invariant (sym c.cons_of.ensures ∙ c.in-Some.is) (c.in_err-part.ensures.bad (cc (e, p.1, p.2)))

pub parts-loop-alloc-preserved : goal.parts-loop-alloc-preserved
parts-loop-alloc-preserved t c =
    parting.parts_more _ _ _ _ _ c.in-Some.first c.in-Some.others c.in_ok-part.part _ _ _ _ c.loop-alloc.invariant (sym c.cons_of.ensures ∙ c.in-Some.is) c.in_ok-part.ensures.ok c.in_ok-push.ensures.items

pub parts-returns-clause-ok : goal.parts-returns-clause-ok
parts-returns-clause-ok t c = parting.parted _ _ _ _ _ _ _ c.loop-alloc.invariant (sym c.is_nil.ensures ∙ c.loop-alloc-test.false)

pub tree-returns-in_err-take_room-clause-bad : goal.tree-returns-in_err-take_room-clause-bad
tree-returns-in_err-take_room-clause-bad t c = λ e. no_room _ _ _ _ c.in_err-take_room.ensures.bad

pub tree-returns-in_default-cons_of-clause-bad : goal.tree-returns-in_default-cons_of-clause-bad
tree-returns-in_default-cons_of-clause-bad t c = λ e. no_form _ _ _ _ (sym c.type_at.ensures ∙ c.in_default.is) (sym c.cons_of.ensures ∙ c.in_default-cons_of.is)

pub tree-returns-in_default-operator_at-clause-bad :
    goal.tree-returns-in_default-operator_at-clause-bad
tree-returns-in_default-operator_at-clause-bad t c = λ e.
    no_operator _ _ _ c.in-Some-cons_of.head c.in-Some-cons_of.operands _ (sym c.type_at.ensures ∙ c.in_default.is) (sym c.cons_of.ensures ∙ c.in-Some-cons_of.is) (sym c.operator_at.ensures ∙ c.in_default-operator_at.is)
