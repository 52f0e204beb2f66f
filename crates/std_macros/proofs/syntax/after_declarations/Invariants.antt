use Rattle.std.proofs.Common.{◌≡◌, length}
use Rattle.std_macros.specs.Syntax.{parted}
use Rattle.std_macros.proofs.syntax.after_declarations.Given as goal

abbrev pub invariant-loop-rest : goal.invariant-loop-rest
invariant-loop-rest l = (parted l.heap l.rest).rest ≡ (parted l.heap l.body).rest

abbrev pub decreases-loop-rest : goal.decreases-loop-rest
decreases-loop-rest l = length l.rest
