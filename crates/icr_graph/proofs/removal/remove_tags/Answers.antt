-- One more tag is looked at.
use Rattle.std.proofs.Common.{ap, ◌∙◌}
use Rattle.ir_ids.specs.Entries.{map_of}
use Rattle.icr_graph.specs.declared.nodes.Tag.{Tag}
use Rattle.icr_graph.specs.Lists.{changed}
use Rattle.icr_graph.specs.Edits.{no_arrival_of}
use Rattle.icr_graph.proofs.Touched.{touch_step_by, no_arrival_twice}
use Rattle.icr_graph.proofs.removal.remove_tags.Goals as goal

pub loop-tag-preserved : goal.loop-tag-preserved
loop-tag-preserved c =
    c.remove_arrival.ensures
    ∙ (ap (changed (no_arrival_of c.args.node) c.tag-item.result.block) c.loop-tag.invariant
    ∙ touch_step_by (no_arrival_of c.args.node) (map_of c.args.blocks.now) (no_arrival_twice c.args.node) (λ (t : Tag). t.block) c.args.tags.now c.loop-tag.tag-index c.tag-item.result c.loop-tag-test.true c.tag-item.is)
