use Rattle.expansion_laws.proofs.CheckedMaking.{trees_are_checked}
use Rattle.expansion_laws.proofs.checked_trees.trees_are_checked.Goals as goal

pub returns : goal.returns
returns c = trees_are_checked
