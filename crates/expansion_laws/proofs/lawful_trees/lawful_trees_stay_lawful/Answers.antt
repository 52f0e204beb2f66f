use Rattle.expansion_laws.proofs.LawfulTrees.{lawful_trees_stay, programs_hold}
use Rattle.expansion_laws.proofs.lawful_trees.lawful_trees_stay_lawful.Goals as goal

pub returns-clause-trees : goal.returns-clause-trees
returns-clause-trees c = lawful_trees_stay

pub returns-clause-programs : goal.returns-clause-programs
returns-clause-programs c = programs_hold
