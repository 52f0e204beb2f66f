use Rattle.layers.proofs.Following as lemmas
use Rattle.layers.proofs.laws.keeps_of_follows.Goals as goal

pub returns : goal.returns
returns c = lemmas.keeps_of_follows
