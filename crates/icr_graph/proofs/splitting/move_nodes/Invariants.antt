use Rattle.std.proofs.Common.{◌≡◌, take}
use Rattle.ir_ids.specs.Entries.{map_of}
use Rattle.icr_graph.specs.Lists.{touched}
use Rattle.icr_graph.specs.Edits.{in_block}
use Rattle.icr_graph.proofs.splitting.move_nodes.Given as goal

abbrev pub invariant-loop-id : goal.invariant-loop-id
invariant-loop-id l = map_of l.nodes ≡ touched (take l.id-index l.ids) (in_block l.to) (map_of l.fn.nodes)
