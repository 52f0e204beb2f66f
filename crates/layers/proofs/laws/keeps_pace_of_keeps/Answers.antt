use Rattle.layers.proofs.Machines as lemmas
use Rattle.layers.proofs.laws.keeps_pace_of_keeps.Goals as goal

pub returns : goal.returns
returns c = lemmas.keeps_pace_of_keeps
