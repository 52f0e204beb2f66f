use Rattle.std.proofs.Common.{◌≡◌, ◌++◌, drop}
use Rattle.core_form.specs.ListReading.{parameters_list}
use Rattle.form_facts.specs.Read.{those_parameters}
use Rattle.form_facts.proofs.parameters.note_required.Given as goal

abbrev pub invariant-loop-parameter : goal.invariant-loop-parameter
invariant-loop-parameter l =
    those_parameters l.noted.items ++ parameters_list (drop l.parameter-index l.parameters) ≡ those_parameters l.initial.noted.items ++ parameters_list l.parameters
