use Rattle.std.proofs.Common.{◌≡◌, drop}
use Rattle.core_form.specs.Facts.{binding_parameters}
use Rattle.core_form.specs.ListReading.{bindings_list}
use Rattle.core_form.specs.Step.{all_lexical}
use Rattle.icr_convert.proofs.binding.all_lexical.Given as goal

abbrev pub invariant-loop-binding : goal.invariant-loop-binding
invariant-loop-binding l =
    all_lexical (binding_parameters (bindings_list (drop l.binding-index l.bindings))) ≡ all_lexical (binding_parameters (bindings_list l.bindings))
