-- What the block names is all that names it.
use Rattle.std.proofs.Common.{◌≡◌, sym, subst}
use Rattle.ir_ids.specs.Entries.{map_of}
use Rattle.icr_graph.specs.Plain.{graph_of}
use Rattle.icr_graph.specs.Whole.{IsWhole}
use Rattle.icr_graph.proofs.Splits.{placed_live, split_written, split_whole}
use Rattle.icr_graph.proofs.graph.Graph.split_block.Goals as goal

pub invariant_of-self : goal.invariant_of-self
invariant_of-self c = rw c.in_default-add.ensures.err c.self.invariant

pub invariant_of-self-2 : goal.invariant_of-self-2
invariant_of-self-2 c =
    let live = placed_live _ c.args.after c.block_of-old.result c.self.invariant (rw (← c.self.view_is) at c.block_of-old.ensures) in
    let written = split_written _ c.args.after c.block_of-old.result c.in-Ok.new c.in-Ok.ensures.vacant live c.self.invariant (map_of c.move_into.new.nodes) (map_of c.hand_on.new.blocks) (map_of c.add.new.self) c.in_ok-rest.rest (rw (← c.self.view_is) at c.in_ok-rest.ensures.ok) c.in-Ok.ensures.added c.move_into.ensures c.hand_on.ensures in
    subst IsWhole (sym written) (split_whole _ c.args.after c.block_of-old.result c.in-Ok.new c.in-Ok.ensures.vacant live c.self.invariant)

pub returns-clause-ok : goal.returns-clause-ok
returns-clause-ok c =
    let live = placed_live _ c.args.after c.block_of-old.result c.self.invariant (rw (← c.self.view_is) at c.block_of-old.ensures) in
    rw (c.block_of-old.ensures, ← c.self.view_is)
    (split_written _ c.args.after c.block_of-old.result c.in-Ok.new c.in-Ok.ensures.vacant live c.self.invariant (map_of c.move_into.new.nodes) (map_of c.hand_on.new.blocks) (map_of c.add.new.self) c.in_ok-rest.rest (rw (← c.self.view_is) at c.in_ok-rest.ensures.ok) c.in-Ok.ensures.added c.move_into.ensures c.hand_on.ensures)
