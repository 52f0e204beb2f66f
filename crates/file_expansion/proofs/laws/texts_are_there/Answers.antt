use Rattle.file_expansion.proofs.TextsThere.{texts_are_there}
use Rattle.file_expansion.proofs.laws.texts_are_there.Goals as goal

pub returns : goal.returns
returns c = texts_are_there
