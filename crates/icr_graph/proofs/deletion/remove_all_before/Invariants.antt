use Rattle.std.proofs.Common.{◌≡◌, take}
use Rattle.ir_ids.specs.Entries.{map_of}
use Rattle.icr_graph.specs.Lists.{touched}
use Rattle.icr_graph.specs.Edits.{not_preceded_by}
use Rattle.icr_graph.proofs.deletion.remove_all_before.Given as goal

abbrev pub invariant-loop-id : goal.invariant-loop-id
invariant-loop-id l = map_of l.blocks ≡ touched (take l.id-index l.ids) (not_preceded_by l.from) (map_of l.fn.blocks)
