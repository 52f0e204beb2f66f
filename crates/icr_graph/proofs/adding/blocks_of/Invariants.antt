use Rattle.std.proofs.Common.{◌≡◌, take, map}
use Rattle.icr_graph.proofs.adding.blocks_of.Given as goal

abbrev pub invariant-loop-tag : goal.invariant-loop-tag
invariant-loop-tag l = l.blocks ≡ map (λ t. t.block) (take l.tag-index l.tags)
