use Rattle.std.proofs.Common.{◌≡◌, ◌++◌, drop}
use Rattle.lambda_lists.specs.Readings.{defaults_of}
use Rattle.expansion.specs.Bindings.{optional_names}
use Rattle.form_expander.proofs.parameter_lists.add_optional_names.Given as goal

abbrev pub invariant-loop-parameter : goal.invariant-loop-parameter
invariant-loop-parameter l = l.names.items ++ optional_names (defaults_of (drop l.parameter-index l.optional)) ≡ l.fn.names.items ++ optional_names (defaults_of l.optional)
