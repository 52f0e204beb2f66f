use Rattle.expansion_laws.proofs.TherePartLaws.{pairs_are_there, elements_are_there, bodies_are_there, types_are_lawful}
use Rattle.expansion_laws.proofs.there.parts_are_there.Goals as goal

pub returns-clause-pairs : goal.returns-clause-pairs
returns-clause-pairs c = pairs_are_there

pub returns-clause-elements : goal.returns-clause-elements
returns-clause-elements c = elements_are_there

pub returns-clause-bodies : goal.returns-clause-bodies
returns-clause-bodies c = bodies_are_there

pub returns-clause-types : goal.returns-clause-types
returns-clause-types c = types_are_lawful
