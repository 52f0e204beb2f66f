use Rattle.std.proofs.Common.{drop}
use Rattle.icr_convert.specs.Converting.{ReleasesTo}
use Rattle.icr_convert.proofs.converter.Converter.release_to.Given as goal

abbrev pub invariant-loop-number : goal.invariant-loop-number
invariant-loop-number l = ReleasesTo l.place (drop l.number l.operands) l.initial.self.built l.self.built
