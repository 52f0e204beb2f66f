use Rattle.layers.proofs.Composing as lemmas
use Rattle.layers.proofs.laws.never_astray_kept.Goals as goal

pub returns : goal.returns
returns c = lemmas.never_astray_kept
