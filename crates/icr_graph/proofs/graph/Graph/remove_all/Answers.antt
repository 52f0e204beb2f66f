-- One more node is gone.
use Rattle.std.proofs.Common.{ap, ◌∙◌}
use Rattle.icr_graph.specs.Plain.{graph_of}
use Rattle.icr_graph.specs.Edits.{without_node}
use Rattle.icr_graph.proofs.BlockGone.{without_step}
use Rattle.icr_graph.proofs.graph.Graph.remove_all.Goals as goal

pub loop-id-preserved : goal.loop-id-preserved
loop-id-preserved c =
    c.remove.ensures
    ∙ (ap (without_node c.id-item.result) c.loop-id.invariant
    ∙ without_step c.args.ids.now c.loop-id.id-index c.id-item.result (graph_of c.args.self.now) c.loop-id-test.true c.id-item.is)
