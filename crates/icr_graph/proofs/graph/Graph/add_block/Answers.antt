-- A new part names nothing and is named by nothing.
use Rattle.icr_graph.proofs.Built.{block_built}
use Rattle.icr_graph.proofs.graph.Graph.add_block.Goals as goal

pub invariant_of-self-2 : goal.invariant_of-self-2
invariant_of-self-2 c = rw (c.in-Ok.ensures.added, c.empty_block-block.ensures) (block_built _ c.in-Ok.id (c.in-Ok.ensures.vacant) c.self.invariant)
