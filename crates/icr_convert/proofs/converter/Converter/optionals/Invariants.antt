use Rattle.std.proofs.Common.{◌≡◌, ◌++◌, drop, map}
use Rattle.core_form.specs.Facts.{optional_parameters}
use Rattle.core_form.specs.ListReading.{optionals_list}
use Rattle.graph_building.specs.Built.{Built}
use Rattle.icr_convert.specs.Coding.{TakesOptionals}
use Rattle.icr_convert.proofs.converter.Converter.optionals.Given as goal

abbrev pub invariant-loop-optional : goal.invariant-loop-optional
invariant-loop-optional l =
    ((b : Built) → TakesOptionals l.names l.place l.argument (optionals_list (drop l.optional-index l.optionals)) l.self.built b → TakesOptionals l.names l.place l.fn.first (optionals_list l.optionals) l.initial.self.built b)
    × (map (λ x. x.variable) l.bound.items ++ map (λ x. x.variable) (optional_parameters (optionals_list (drop l.optional-index l.optionals))) ≡ map (λ x. x.variable) l.initial.bound.items ++ map (λ x. x.variable) (optional_parameters (optionals_list l.optionals)))
