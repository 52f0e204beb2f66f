-- With an exit of an entry the graph still hangs together.
use Rattle.std.proofs.Common.{◌≡◌, None}
use Rattle.icr_graph.specs.Plain.{graph_of}
use Rattle.icr_graph.specs.Faults.{pair_fault}
use Rattle.icr_graph.proofs.Attached.{paired_whole}
use Rattle.icr_graph.proofs.graph.Graph.pair.Goals as goal

pub invariant_of-self-2 : goal.invariant_of-self-2
invariant_of-self-2 c =
    let stated : pair_fault (graph_of c.args.self.now) c.args.exit c.args.entry ≡ None = cc in
    rw (c.set_entry.ensures, c.in_ok-add_exit.ensures.ok)
    (paired_whole _ c.args.exit c.args.entry (rw (← c.self.view_is) at stated) c.self.invariant)
