-- One more node is looked at.
use Rattle.std.proofs.Common.{ap, ◌∙◌}
use Rattle.ir_ids.specs.Entries.{map_of}
use Rattle.icr_graph.specs.Lists.{changed}
use Rattle.icr_graph.specs.Edits.{alone}
use Rattle.icr_graph.proofs.Touched.{touch_step, node_alone_twice}
use Rattle.icr_graph.proofs.removal.forget_nodes.Goals as goal

pub loop-id-preserved : goal.loop-id-preserved
loop-id-preserved c =
    c.forget_node.ensures
    ∙ (ap (changed (alone c.args.node) c.id-item.result) c.loop-id.invariant
    ∙ touch_step (alone c.args.node) (map_of c.args.nodes.now) (node_alone_twice c.args.node) c.args.ids.now c.loop-id.id-index c.id-item.result c.loop-id-test.true c.id-item.is)
