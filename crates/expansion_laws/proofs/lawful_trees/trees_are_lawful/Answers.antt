use Rattle.expansion_laws.proofs.LawfulTrees.{trees_are_lawful}
use Rattle.expansion_laws.proofs.lawful_trees.trees_are_lawful.Goals as goal

pub returns : goal.returns
returns c = trees_are_lawful
