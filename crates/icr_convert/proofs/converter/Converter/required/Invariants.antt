use Rattle.std.proofs.Common.{◌≡◌, ◌++◌, drop, map}
use Rattle.core_form.specs.ListReading.{parameters_list}
use Rattle.graph_building.specs.Built.{Built}
use Rattle.icr_convert.specs.Coding.{TakesRequired}
use Rattle.icr_convert.proofs.converter.Converter.required.Given as goal

abbrev pub invariant-loop-parameter : goal.invariant-loop-parameter
invariant-loop-parameter l =
    ((b : Built) → TakesRequired l.names l.place l.number (parameters_list (drop l.parameter-index l.parameters)) l.self.built b → TakesRequired l.names l.place 0 (parameters_list l.parameters) l.initial.self.built b)
    × (map (λ x. x.variable) l.bound.items ++ map (λ x. x.variable) (parameters_list (drop l.parameter-index l.parameters)) ≡ map (λ x. x.variable) l.initial.bound.items ++ map (λ x. x.variable) (parameters_list l.parameters))
