use Rattle.std.proofs.Common.{ℕ, List, ◌++◌, drop}
use Rattle.core_form.specs.Reading.{cores_list}
use Rattle.graph_building.specs.Built.{Built}
use Rattle.icr_convert.specs.Converting.{NewConts}
use Rattle.icr_convert.proofs.converter.Converter.conts_for.Given as goal

abbrev pub invariant-loop-part : goal.invariant-loop-part
invariant-loop-part l = (b : Built) (ks : List ℕ) → NewConts (cores_list (drop l._part-index l.parts)) l.self.built b ks → NewConts (cores_list l.parts) l.initial.self.built b (l.operands ++ ks)
