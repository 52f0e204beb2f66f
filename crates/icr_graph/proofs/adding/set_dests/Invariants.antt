use Rattle.std.proofs.Common.{◌≡◌, Some, take}
use Rattle.ir_ids.specs.Entries.{map_of}
use Rattle.icr_graph.specs.Lists.{touched}
use Rattle.icr_graph.specs.Edits.{taken_by}
use Rattle.icr_graph.proofs.adding.set_dests.Given as goal

abbrev pub invariant-loop-id : goal.invariant-loop-id
invariant-loop-id l = map_of l.conts ≡ touched (take l.id-index l.ids) (taken_by (Some l.node)) (map_of l.fn.conts)
