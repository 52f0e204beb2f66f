use Rattle.std.proofs.Common.{◌≡◌, ◌++◌, drop}
use Rattle.core_form.specs.Facts.{optional_parameters}
use Rattle.core_form.specs.ListReading.{optionals_list}
use Rattle.form_facts.specs.Read.{those_parameters}
use Rattle.form_facts.proofs.parameters.note_optionals.Given as goal

abbrev pub invariant-loop-optional : goal.invariant-loop-optional
invariant-loop-optional l =
    those_parameters l.noted.items ++ optional_parameters (optionals_list (drop l.optional-index l.optionals)) ≡ those_parameters l.initial.noted.items ++ optional_parameters (optionals_list l.optionals)
