use Rattle.std.proofs.Common.{◌≡◌, drop}
use Rattle.core_form.specs.Facts.{has_number}
use Rattle.core_form.specs.Checked.{parameter_numbers}
use Rattle.core_form.specs.ListReading.{parameters_list}
use Rattle.core_form.proofs.scopes.is_among_parameters.Given as goal

abbrev pub invariant-loop-parameter : goal.invariant-loop-parameter
invariant-loop-parameter l = has_number l.number (parameter_numbers (parameters_list (drop l.parameter-index l.parameters))) ≡ has_number l.number (parameter_numbers (parameters_list l.parameters))
