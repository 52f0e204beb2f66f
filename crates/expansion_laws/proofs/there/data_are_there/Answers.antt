use Rattle.expansion_laws.proofs.ThereLaws.{data_are_there}
use Rattle.expansion_laws.proofs.there.data_are_there.Goals as goal

pub returns : goal.returns
returns c = data_are_there
