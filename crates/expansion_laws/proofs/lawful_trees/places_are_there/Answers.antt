use Rattle.expansion_laws.proofs.LawfulTops.{places_have_symbols, symbols_have_places, reached_places_are_there}
use Rattle.expansion_laws.proofs.lawful_trees.places_are_there.Goals as goal

pub returns-clause-places : goal.returns-clause-places
returns-clause-places c = places_have_symbols

pub returns-clause-symbols : goal.returns-clause-symbols
returns-clause-symbols c = symbols_have_places

pub returns-clause-reached : goal.returns-clause-reached
returns-clause-reached c = reached_places_are_there
