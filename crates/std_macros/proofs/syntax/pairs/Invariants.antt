use Rattle.std.proofs.Common.{◌≡◌, ◌++◌, length}
use Rattle.std.specs.Option.{option_map}
use Rattle.std_macros.specs.Syntax.{pairs}
use Rattle.std_macros.proofs.syntax.pairs.Given as goal

abbrev pub invariant-loop-rest : goal.invariant-loop-rest
invariant-loop-rest l = option_map (λ ps. (l.firsts.items ++ ps.0, l.seconds.items ++ ps.1)) (pairs l.rest) ≡ pairs l.values

abbrev pub decreases-loop-rest : goal.decreases-loop-rest
decreases-loop-rest l = length l.rest
