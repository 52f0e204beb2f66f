use Rattle.layers.proofs.Machines as lemmas
use Rattle.layers.proofs.laws.shows_nothing_else_of_keeps.Goals as goal

pub returns : goal.returns
returns c = lemmas.shows_nothing_else_of_keeps
