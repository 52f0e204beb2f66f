use Rattle.std.proofs.Common.{◌≡◌, ◌++◌, map, drop}
use Rattle.declarations.specs.Declarations.{declared_of}
use Rattle.lambda_lists.specs.Readings.{defaults_of}
use Rattle.expansion.specs.Bindings.{optional_by}
use Rattle.form_expander.specs.Reading.{optional_of}
use Rattle.form_expander.proofs.parameter_lists.optionals.Given as goal

abbrev pub invariant-loop-parameter : goal.invariant-loop-parameter
invariant-loop-parameter l = map optional_of l.made.items ++ map (optional_by l.later (declared_of l.declared)) (defaults_of (drop l.parameter-index l.parameters)) ≡ map (optional_by l.later (declared_of l.declared)) (defaults_of l.parameters)
