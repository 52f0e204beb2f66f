use Rattle.std.proofs.Common.{◌≡◌, take, map}
use Rattle.ir_ids.specs.Entries.{map_of}
use Rattle.icr_graph.specs.Lists.{touched}
use Rattle.icr_graph.specs.Edits.{no_arrival_of}
use Rattle.icr_graph.proofs.removal.remove_tags.Given as goal

abbrev pub invariant-loop-tag : goal.invariant-loop-tag
invariant-loop-tag l = map_of l.blocks ≡ touched (map (λ t. t.block) (take l.tag-index l.tags)) (no_arrival_of l.node) (map_of l.fn.blocks)
