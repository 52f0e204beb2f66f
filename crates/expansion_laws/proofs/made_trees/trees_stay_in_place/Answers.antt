use Rattle.expansion_laws.proofs.Placed.{trees_stay_in_place}
use Rattle.expansion_laws.proofs.made_trees.trees_stay_in_place.Goals as goal

pub returns : goal.returns
returns c = record { stays = trees_stay_in_place }
