use Rattle.std.proofs.Common.{ℕ, map, drop}
use Rattle.lisp_base.specs.Reading.{spec_of}
use Rattle.graph_building.specs.Built.{Built}
use Rattle.icr_convert.specs.Coding.{Checks}
use Rattle.icr_convert.proofs.converter.Converter.checks.Given as goal

abbrev pub invariant-loop-number : goal.invariant-loop-number
invariant-loop-number l =
    (b : Built) (j : ℕ) → Checks l.place (map spec_of (drop l.number l.types)) l.value l.self.built b j → Checks l.place (map spec_of l.types) l.fn.value l.fn.self.built b j
