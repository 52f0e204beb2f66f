use Rattle.expansion_laws.proofs.TestedMaking.{types_are_tested}
use Rattle.expansion_laws.proofs.tested.declared_are_tested.Goals as goal

pub returns : goal.returns
returns c = types_are_tested
