use Rattle.expansion_laws.proofs.Counting.{trees_are_counted}
use Rattle.expansion_laws.proofs.made_trees.trees_are_counted.Goals as goal

pub returns : goal.returns
returns c = record { counted = trees_are_counted }
