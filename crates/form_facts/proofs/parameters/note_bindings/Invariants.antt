use Rattle.std.proofs.Common.{◌≡◌, ◌++◌, drop}
use Rattle.core_form.specs.Facts.{binding_parameters}
use Rattle.core_form.specs.ListReading.{bindings_list}
use Rattle.form_facts.specs.Read.{those_parameters}
use Rattle.form_facts.proofs.parameters.note_bindings.Given as goal

abbrev pub invariant-loop-binding : goal.invariant-loop-binding
invariant-loop-binding l =
    those_parameters l.noted.items ++ binding_parameters (bindings_list (drop l.binding-index l.bindings)) ≡ those_parameters l.initial.noted.items ++ binding_parameters (bindings_list l.bindings)
