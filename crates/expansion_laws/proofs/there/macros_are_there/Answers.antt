use Rattle.expansion_laws.proofs.TherePartLaws.{macros_are_there}
use Rattle.expansion_laws.proofs.there.macros_are_there.Goals as goal

pub returns : goal.returns
returns c = macros_are_there
