-- With an entry of a function the graph still hangs together.
use Rattle.std.proofs.Common.{◌≡◌, None}
use Rattle.icr_graph.specs.Plain.{graph_of}
use Rattle.icr_graph.specs.Faults.{entry_fault}
use Rattle.icr_graph.proofs.Attached.{entered_whole}
use Rattle.icr_graph.proofs.graph.Graph.add_entry.Goals as goal

pub invariant_of-self-2 : goal.invariant_of-self-2
invariant_of-self-2 c =
    let stated : entry_fault (graph_of c.args.self.now) c.args.function c.args.block ≡ None = cc in
    rw (c.set_entry_of.ensures, c.in_ok-begin_at.ensures.ok)
    (entered_whole _ c.args.function c.args.block (rw (← c.self.view_is) at stated) c.self.invariant)
