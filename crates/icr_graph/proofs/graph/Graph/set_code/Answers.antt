-- With a function as the form's own code the graph still hangs together.
use Rattle.std.proofs.Common.{◌≡◌, None}
use Rattle.icr_graph.specs.Plain.{graph_of}
use Rattle.icr_graph.specs.Faults.{named_function_fault}
use Rattle.icr_graph.proofs.FormNamed.{code_named}
use Rattle.icr_graph.proofs.graph.Graph.set_code.Goals as goal

pub invariant_of-self : goal.invariant_of-self
invariant_of-self c =
    let stated : named_function_fault (graph_of c.args.self.now) c.args.function ≡ None = cc in
    code_named _ c.args.function (rw (← c.self.view_is) at stated) c.self.invariant
