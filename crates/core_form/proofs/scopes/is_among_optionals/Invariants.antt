use Rattle.std.proofs.Common.{◌≡◌, drop}
use Rattle.core_form.specs.Facts.{has_number}
use Rattle.core_form.specs.Checked.{optionals_numbers}
use Rattle.core_form.specs.ListReading.{optionals_list}
use Rattle.core_form.proofs.scopes.is_among_optionals.Given as goal

abbrev pub invariant-loop-optional : goal.invariant-loop-optional
invariant-loop-optional l = has_number l.number (optionals_numbers (optionals_list (drop l.optional-index l.optionals))) ≡ has_number l.number (optionals_numbers (optionals_list l.optionals))
