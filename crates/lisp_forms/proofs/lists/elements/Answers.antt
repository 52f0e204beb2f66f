use Rattle.std.proofs.Common.{sym, ◌∙◌, arith}
use Rattle.std.proofs.lemmas.Grind.{common_steps}
use Rattle.lisp_forms.specs.Conses.{elements}
use Rattle.lisp_forms.proofs.Walks.{walk_more, walk_ends, walk_stops, walk_turns}
use Rattle.lisp_forms.proofs.lists.elements.Goals as goal

pub returns-in_default : goal.returns-in_default
unfolding elements
returns-in_default c = walk_stops _ _ _ _ c.loop-rest.invariant (sym c.is_nil.ensures ∙ c.loop-rest-test.true) (sym c.cons_of.ensures ∙ c.in_default.is)

pub returns-then-not-has_more : goal.returns-then-not-has_more
unfolding elements
returns-then-not-has_more c = walk_turns _ _ _ _ c.loop-rest.invariant (sym c.is_nil.ensures ∙ c.loop-rest-test.true) (grind (arith, common_steps, c.has_more.ensures.none c.if-not-has_more.true, c.len.ensures))

pub loop-rest-preserved : goal.loop-rest-preserved
loop-rest-preserved c =
    walk_more _ _ _ _ c.in-Some.first c.in-Some.others _ c.loop-rest.invariant (sym c.is_nil.ensures ∙ c.loop-rest-test.true) (sym c.cons_of.ensures ∙ c.in-Some.is) (grind (arith, common_steps, c.if-not-has_more.ensures.more, c.has_more.ensures.more c.if-not-has_more.false, c.len.ensures)) c.in_ok-push.ensures.items

pub returns : goal.returns
unfolding elements
returns c = walk_ends _ _ _ _ c.loop-rest.invariant (sym c.is_nil.ensures ∙ c.loop-rest-test.false)
