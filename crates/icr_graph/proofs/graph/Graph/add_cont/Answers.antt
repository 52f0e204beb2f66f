-- A new part names nothing and is named by nothing.
use Rattle.icr_graph.proofs.Built.{cont_built}
use Rattle.icr_graph.proofs.graph.Graph.add_cont.Goals as goal

pub invariant_of-self-2 : goal.invariant_of-self-2
invariant_of-self-2 c = rw (c.in-Ok.ensures.added, c.empty_cont-cont.ensures) (cont_built _ c.in-Ok.id (c.in-Ok.ensures.vacant) c.self.invariant)
