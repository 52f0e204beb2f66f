use Rattle.layers.proofs.Simulating as lemmas
use Rattle.layers.proofs.laws.keeps_of_simulation.Goals as goal

pub returns : goal.returns
returns c = lemmas.keeps_of_simulation
