use Rattle.std.proofs.Common.{◌+◌, length}
use Rattle.type_lattice.proofs.Comparing.{Compares}
use Rattle.type_lattice.proofs.ranges.Ranges.is_subset.Given as goal

abbrev pub invariant-loop-border : goal.invariant-loop-border
invariant-loop-border l =
    Compares l.self.below l.self.borders.items l.of.below l.of.borders.items l.x.inside l.x.left.now l.y.inside l.y.left.now

abbrev pub decreases-loop-border : goal.decreases-loop-border
decreases-loop-border l = length l.x.left.now + length l.y.left.now
