-- With an edge the graph still hangs together.
use Rattle.std.proofs.Common.{◌≡◌, None}
use Rattle.icr_graph.specs.Plain.{graph_of}
use Rattle.icr_graph.specs.Faults.{link_fault}
use Rattle.icr_graph.proofs.EdgesKept.{link_kept}
use Rattle.icr_graph.proofs.graph.Graph.link.Goals as goal

pub invariant_of-self-2 : goal.invariant_of-self-2
invariant_of-self-2 c =
    let stated : link_fault (graph_of c.args.self.now) c.args.from c.args.to ≡ None = cc in
    rw c.in_ok-add_edge.ensures.ok
    (link_kept _ c.args.from c.args.to (rw (← c.self.view_is) at stated) c.self.invariant)
