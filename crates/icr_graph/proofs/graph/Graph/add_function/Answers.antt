-- With a new function the graph still hangs together.
use Rattle.std.proofs.Common.{◌≡◌, None}
use Rattle.icr_graph.specs.Plain.{graph_of}
use Rattle.icr_graph.specs.Faults.{function_fault}
use Rattle.icr_graph.proofs.FunctionBuilt.{function_built}
use Rattle.icr_graph.proofs.graph.Graph.add_function.Goals as goal

pub invariant_of-self-2 : goal.invariant_of-self-2
invariant_of-self-2 c =
    let stated : function_fault (graph_of c.args.self.now) c.args.function ≡ None = cc in
    rw c.in-Ok.ensures.added
    (function_built _ c.in-Ok.id c.args.function c.in-Ok.ensures.vacant c.requires (rw (← c.self.view_is) at stated) c.self.invariant)
