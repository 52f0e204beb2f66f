-- Without an edge the graph still hangs together.
use Rattle.icr_graph.proofs.EdgesKept.{unlinked_whole}
use Rattle.icr_graph.proofs.graph.Graph.unlink.Goals as goal

pub invariant_of-self : goal.invariant_of-self
invariant_of-self c =
    rw (c.remove_before.ensures, c.remove_after.ensures)
    (unlinked_whole _ c.args.from c.args.to c.self.invariant)
