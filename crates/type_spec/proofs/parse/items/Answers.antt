use Rattle.std.proofs.Common.{sym, ◌∙◌}
use Rattle.type_spec.proofs.Listing.{no_room, no_cons, no_item, lists_more, listed}
use Rattle.type_spec.proofs.parse.items.Goals as goal

pub returns-in_err-take_room-clause-bad : goal.returns-in_err-take_room-clause-bad
returns-in_err-take_room-clause-bad c = λ e. no_room _ _ _ _ _ _ _ c.loop-rest.invariant (sym c.is_nil.ensures ∙ c.loop-rest-test.true) c.in_err-take_room.ensures.bad

pub returns-in_default-clause-bad : goal.returns-in_default-clause-bad
returns-in_default-clause-bad c = λ e. no_cons _ _ _ _ _ _ _ _ c.loop-rest.invariant (sym c.is_nil.ensures ∙ c.loop-rest-test.true) (sym c.cons_of.ensures ∙ c.in_default.is)

pub returns-in_default-item_of-clause-bad : goal.returns-in_default-item_of-clause-bad
returns-in_default-item_of-clause-bad c = λ e. no_item _ _ _ _ _ c.in-Some.first c.in-Some.others _ _ _ c.loop-rest.invariant (sym c.is_nil.ensures ∙ c.loop-rest-test.true) (sym c.cons_of.ensures ∙ c.in-Some.is) (sym c.item_of.ensures ∙ c.in_default-item_of.is)

pub loop-rest-preserved : goal.loop-rest-preserved
loop-rest-preserved c =
    lists_more _ _ _ _ _ c.in-Some.first c.in-Some.others c.in-Some-item_of.item _ _ _ _ c.loop-rest.invariant (sym c.cons_of.ensures ∙ c.in-Some.is) (sym c.item_of.ensures ∙ c.in-Some-item_of.is) c.in_ok-take_room.ensures.ok c.in_ok-push.ensures.items

pub returns-clause-ok : goal.returns-clause-ok
returns-clause-ok c = listed _ _ _ _ _ _ _ c.loop-rest.invariant (sym c.is_nil.ensures ∙ c.loop-rest-test.false)
