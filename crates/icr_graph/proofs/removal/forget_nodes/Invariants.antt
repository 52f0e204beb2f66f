use Rattle.std.proofs.Common.{◌≡◌, take}
use Rattle.ir_ids.specs.Entries.{map_of}
use Rattle.icr_graph.specs.Lists.{touched}
use Rattle.icr_graph.specs.Edits.{alone}
use Rattle.icr_graph.proofs.removal.forget_nodes.Given as goal

abbrev pub invariant-loop-id : goal.invariant-loop-id
invariant-loop-id l = map_of l.nodes ≡ touched (take l.id-index l.ids) (alone l.node) (map_of l.fn.nodes)
