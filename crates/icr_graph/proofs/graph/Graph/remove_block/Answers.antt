-- The edges that the block names are all its edges.
use Rattle.std.proofs.Common.{sym}
use Rattle.icr_graph.proofs.BlockGone.{block_gone_is, block_gone_whole}
use Rattle.icr_graph.proofs.graph.Graph.remove_block.Goals as goal

pub invariant_of-self : goal.invariant_of-self
invariant_of-self c =
    rw (c.remove_all_before.ensures, c.as_slice.ensures, c.in-Some.ensures.retired)
    (block_gone_whole _ c.args.id (rw (← c.self.view_is) at c.requires.free) c.self.invariant c.in-Some.block (sym c.in-Some.ensures.value))

pub returns : goal.returns
returns c =
    rw (← c.self.view_is, c.remove_all_before.ensures, c.as_slice.ensures, c.in-Some.ensures.retired)
    (block_gone_is _ c.args.id (rw (← c.self.view_is) at c.requires.free) c.self.invariant c.in-Some.block (sym c.in-Some.ensures.value))
