use Rattle.std.proofs.Common.{◌≡◌, take}
use Rattle.ir_ids.specs.Entries.{map_of}
use Rattle.icr_graph.specs.Lists.{touched}
use Rattle.icr_graph.specs.Edits.{not_taken_by}
use Rattle.icr_graph.proofs.removal.clear_dests.Given as goal

abbrev pub invariant-loop-id : goal.invariant-loop-id
invariant-loop-id l = map_of l.conts ≡ touched (take l.id-index l.ids) (not_taken_by l.node) (map_of l.fn.conts)
