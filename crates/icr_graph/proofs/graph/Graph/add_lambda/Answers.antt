-- With the function of one more lambda the graph still hangs together.
use Rattle.std.proofs.Common.{◌≡◌, None}
use Rattle.icr_graph.specs.Plain.{graph_of}
use Rattle.icr_graph.specs.Faults.{named_function_fault}
use Rattle.icr_graph.proofs.FormNamed.{lambda_named}
use Rattle.icr_graph.proofs.graph.Graph.add_lambda.Goals as goal

pub invariant_of-self-2 : goal.invariant_of-self-2
invariant_of-self-2 c =
    let stated : named_function_fault (graph_of c.args.self.now) c.args.function ≡ None = cc in
    rw c.in_ok-push.ensures.ok
    (lambda_named _ c.args.function (rw (← c.self.view_is) at stated) c.self.invariant)
