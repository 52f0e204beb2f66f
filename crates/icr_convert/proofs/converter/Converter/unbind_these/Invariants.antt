use Rattle.std.proofs.Common.{map, drop}
use Rattle.icr_convert.specs.Coding.{UnbindsThese}
use Rattle.icr_convert.proofs.converter.Converter.unbind_these.Given as goal

abbrev pub invariant-loop-number : goal.invariant-loop-number
invariant-loop-number l = UnbindsThese l.place (map (λ x. x.variable) (drop l.number l.bound)) l.fn.self.built l.self.built
