use Rattle.std.proofs.Common.{◌≡◌, drop, map}
use Rattle.icr_convert.specs.Coding.{are_lexical}
use Rattle.icr_convert.proofs.functions.all_lexical.Given as goal

abbrev pub invariant-loop-one : goal.invariant-loop-one
invariant-loop-one l = are_lexical (map (λ x. x.variable) (drop l.one-index l.bound)) ≡ are_lexical (map (λ x. x.variable) l.bound)
