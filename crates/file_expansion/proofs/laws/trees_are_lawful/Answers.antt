use Rattle.file_expansion.proofs.Lawful.{trees_are_lawful}
use Rattle.file_expansion.proofs.laws.trees_are_lawful.Goals as goal

pub returns : goal.returns
returns c = trees_are_lawful c.trees_are_lawful.ensures c.there_are_data.ensures.given c.places_are_there.ensures.places
