use Rattle.expansion_laws.proofs.CheckedMaking.{symbols_have_functions}
use Rattle.expansion_laws.proofs.checked_trees.symbols_have_functions.Goals as goal

pub returns : goal.returns
returns c = symbols_have_functions
