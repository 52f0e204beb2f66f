-- Where the blocks of the tags that are left belong to the function, those of all do.
use Rattle.std.specs.Prelude.{map, drop}
use Rattle.graph_building.specs.Orderly.{AllOwned}
use Rattle.graph_building.proofs.owners.tags_have_owner.Given as goal

abbrev pub invariant-loop-tag : goal.invariant-loop-tag
invariant-loop-tag l = AllOwned l.owners l.block (map (λ t. t.block) (drop l.tag-index l.tags)) → AllOwned l.owners l.block (map (λ t. t.block) l.tags)
