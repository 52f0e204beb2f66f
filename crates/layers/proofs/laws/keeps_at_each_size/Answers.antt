use Rattle.layers.proofs.Composing as lemmas
use Rattle.layers.proofs.laws.keeps_at_each_size.Goals as goal

pub returns : goal.returns
returns c = lemmas.keeps_at_each_size
