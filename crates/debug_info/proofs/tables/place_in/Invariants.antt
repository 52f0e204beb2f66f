use Rattle.std.proofs.Common.{◌≡◌, length}
use Rattle.debug_info.specs.Places.{last_not_above}
use Rattle.debug_info.proofs.tables.place_in.Given as goal

abbrev pub invariant-loop-row : goal.invariant-loop-row
invariant-loop-row l = last_not_above l.pc l.rest ≡ last_not_above l.pc l.rows

abbrev pub decreases-loop-row : goal.decreases-loop-row
decreases-loop-row l = length l.rest
