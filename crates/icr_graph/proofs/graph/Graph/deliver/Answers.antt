-- With a delivery the graph still hangs together.
use Rattle.std.proofs.Common.{◌≡◌, None}
use Rattle.icr_graph.specs.Plain.{graph_of}
use Rattle.icr_graph.specs.Faults.{deliver_fault}
use Rattle.icr_graph.proofs.Attached.{delivered_whole}
use Rattle.icr_graph.proofs.graph.Graph.deliver.Goals as goal

pub invariant_of-self-2 : goal.invariant_of-self-2
invariant_of-self-2 c =
    let stated : deliver_fault (graph_of c.args.self.now) c.args.node c.args.cont ≡ None = cc in
    rw (c.set_cont.ensures, c.in_ok-add_use.ensures.ok)
    (delivered_whole _ c.args.node c.args.cont (rw (← c.self.view_is) at stated) c.self.invariant)
