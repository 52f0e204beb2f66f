-- A new part names nothing and is named by nothing.
use Rattle.icr_graph.proofs.Built.{variable_built}
use Rattle.icr_graph.proofs.graph.Graph.add_variable.Goals as goal

pub invariant_of-self-2 : goal.invariant_of-self-2
invariant_of-self-2 c = rw c.in-Ok.ensures.added (variable_built _ c.in-Ok.id c.args.variable c.self.invariant)
