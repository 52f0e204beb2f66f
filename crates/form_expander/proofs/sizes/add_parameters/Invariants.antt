use Rattle.std.proofs.Common.{◌≡◌, ◌+◌, drop, map}
use Rattle.core_form.specs.Reading.{parameter_of}
use Rattle.core_form.specs.Tree.{parameters_count}
use Rattle.form_expander.proofs.sizes.add_parameters.Given as goal

abbrev pub invariant-loop-parameter : goal.invariant-loop-parameter
invariant-loop-parameter l = l.total + parameters_count (map parameter_of (drop l.parameter-index l.parameters)) ≡ l.fn.total + parameters_count (map parameter_of l.parameters)
