use Rattle.std.proofs.Common.{length}
use Rattle.type_lattice.proofs.spec.+items_set.Given as goal

abbrev pub decreases-items_set : goal.decreases-items_set
decreases-items_set l = length l.items.now
