use Rattle.std.proofs.Common.{◌≡◌, drop}
use Rattle.core_form.specs.Facts.{has_number, binding_parameters}
use Rattle.core_form.specs.Checked.{parameter_numbers}
use Rattle.core_form.specs.ListReading.{bindings_list}
use Rattle.core_form.proofs.scopes.is_among_bindings.Given as goal

abbrev pub invariant-loop-binding : goal.invariant-loop-binding
invariant-loop-binding l = has_number l.number (parameter_numbers (binding_parameters (bindings_list (drop l.binding-index l.bindings)))) ≡ has_number l.number (parameter_numbers (binding_parameters (bindings_list l.bindings)))
