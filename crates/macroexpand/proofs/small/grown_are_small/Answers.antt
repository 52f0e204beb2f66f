use Rattle.macroexpand.proofs.Totals.{grown_are_small}
use Rattle.macroexpand.proofs.small.grown_are_small.Goals as goal

pub returns : goal.returns
returns c = grown_are_small c.trees_are_counted.ensures.counted
