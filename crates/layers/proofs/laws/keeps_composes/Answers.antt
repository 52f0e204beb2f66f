use Rattle.layers.proofs.Composing as lemmas
use Rattle.layers.proofs.laws.keeps_composes.Goals as goal

pub returns : goal.returns
returns c = lemmas.keeps_composes
