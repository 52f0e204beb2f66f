-- What the node names is all that names the node.
use Rattle.std.proofs.Common.{sym}
use Rattle.icr_graph.proofs.NodeGone.{taken_out_is, taken_out_whole, absent_is}
use Rattle.icr_graph.proofs.graph.Graph.remove.Goals as goal

pub returns-in_default : goal.returns-in_default
returns-in_default c =
    rw (← c.self.view_is, c.in_default.ensures.absent)
    (absent_is _ c.args.id c.self.invariant (sym c.in_default.ensures.value))

pub invariant_of-self-2 : goal.invariant_of-self-2
invariant_of-self-2 c =
    rw (c.take_out.ensures.nodes, c.take_out.ensures.conts, c.take_out.ensures.blocks, c.in-Some.ensures.retired)
    (taken_out_whole _ c.args.id c.self.invariant c.in-Some.node (sym c.in-Some.ensures.value))

pub returns : goal.returns
returns c =
    rw (← c.self.view_is, c.take_out.ensures.nodes, c.take_out.ensures.conts, c.take_out.ensures.blocks, c.in-Some.ensures.retired)
    (taken_out_is _ c.args.id c.self.invariant c.in-Some.node (sym c.in-Some.ensures.value))
