use Rattle.expansion_laws.proofs.Making.{trees_are_made}
use Rattle.expansion_laws.proofs.made_trees.trees_are_made.Goals as goal

pub returns : goal.returns
returns c = record { made = trees_are_made }
