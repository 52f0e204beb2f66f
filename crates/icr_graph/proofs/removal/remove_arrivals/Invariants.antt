use Rattle.std.proofs.Common.{◌≡◌, take}
use Rattle.ir_ids.specs.Entries.{map_of}
use Rattle.icr_graph.specs.Lists.{touched}
use Rattle.icr_graph.specs.Edits.{no_arrival_of}
use Rattle.icr_graph.proofs.removal.remove_arrivals.Given as goal

abbrev pub invariant-loop-id : goal.invariant-loop-id
invariant-loop-id l = map_of l.blocks ≡ touched (take l.id-index l.ids) (no_arrival_of l.node) (map_of l.fn.blocks)
