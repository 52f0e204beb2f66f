use Rattle.std.proofs.Common.{◌+◌, length}
use Rattle.type_lattice.proofs.Merging.{Merges}
use Rattle.type_lattice.proofs.ranges.Ranges.combine.Given as goal

abbrev pub invariant-loop-border : goal.invariant-loop-border
invariant-loop-border l =
    Merges l.how l.a.below l.a.borders.items l.b.below l.b.borders.items l.below l.inside l.borders.items l.x.inside l.x.left.now l.y.inside l.y.left.now

abbrev pub decreases-loop-border : goal.decreases-loop-border
decreases-loop-border l = length l.x.left.now + length l.y.left.now
