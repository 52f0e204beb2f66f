use Rattle.icr_convert.specs.Whole.{VariablesMade}
use Rattle.icr_convert.proofs.converter.Converter.variables.Given as goal

abbrev pub invariant-loop-binder : goal.invariant-loop-binder
invariant-loop-binder l = VariablesMade l.facts l.texts l.initial.self.built l.self.built l.variables.items
