-- One more node is looked at.
use Rattle.std.proofs.Common.{◌≡◌, ap, ◌∙◌}
use Rattle.ir_ids.specs.Entries.{map_of}
use Rattle.icr_graph.specs.Lists.{changed}
use Rattle.icr_graph.specs.Edits.{in_block}
use Rattle.icr_graph.proofs.Touched.{touch_step}
use Rattle.icr_graph.proofs.Regrouped.{in_block_twice}
use Rattle.icr_graph.proofs.splitting.move_nodes.Goals as goal

pub loop-id-preserved : goal.loop-id-preserved
loop-id-preserved c =
    c.move_node.ensures
    ∙ (ap (changed (in_block c.args.to) c.id-item.result) c.loop-id.invariant
    ∙ touch_step (in_block c.args.to) (map_of c.args.nodes.now) (in_block_twice c.args.to) c.args.ids.now c.loop-id.id-index c.id-item.result c.loop-id-test.true c.id-item.is)
