use Rattle.std.proofs.Common.{◌≡◌, take}
use Rattle.ir_ids.specs.Entries.{map_of}
use Rattle.icr_graph.specs.Lists.{touched}
use Rattle.icr_graph.specs.Building.{arriving_from}
use Rattle.icr_graph.proofs.adding.add_arrivals.Given as goal

abbrev pub invariant-loop-id : goal.invariant-loop-id
invariant-loop-id l = map_of l.blocks ≡ touched (take l.id-index l.ids) (arriving_from l.node) (map_of l.fn.blocks)
