-- One more tag is looked at.
use Rattle.std.proofs.Common.{ℕ, List, [], ◌∷◌, ◌++◌, ap, ◌∙◌}
use Rattle.icr_graph.proofs.Arrivals.{one_tag_more}
use Rattle.icr_graph.proofs.adding.blocks_of.Goals as goal

pub loop-tag-preserved : goal.loop-tag-preserved
loop-tag-preserved c =
    c.in_ok-push.ensures.ok
    ∙ (ap (λ (xs : List ℕ). xs ++ c.tag-item.result.block ∷ []) c.loop-tag.invariant
    ∙ one_tag_more c.args.tags.now c.loop-tag.tag-index c.tag-item.result c.loop-tag-test.true c.tag-item.is)
