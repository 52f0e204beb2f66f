use Rattle.std.proofs.Common.{◌≡◌, drop}
use Rattle.core_form.specs.Facts.{has_number}
use Rattle.core_form.specs.Checked.{function_numbers}
use Rattle.core_form.specs.ListReading.{definitions_list}
use Rattle.core_form.proofs.scopes.is_among_functions.Given as goal

abbrev pub invariant-loop-definition : goal.invariant-loop-definition
invariant-loop-definition l = has_number l.number (function_numbers (definitions_list (drop l.definition-index l.definitions))) ≡ has_number l.number (function_numbers (definitions_list l.definitions))
