use Rattle.std.proofs.Common.{◌≡◌, drop}
use Rattle.core_form.specs.ListReading.{bindings_list}
use Rattle.core_form.specs.TextNames.{binding_names}
use Rattle.core_form.specs.TextPage.{page_of, bound}
use Rattle.core_form.proofs.text_variables.know_bindings.Given as goal

abbrev pub invariant-loop-binding : goal.invariant-loop-binding
invariant-loop-binding l = bound (page_of l.page) (binding_names (bindings_list (drop l.binding-index l.bindings))) ≡ bound (page_of l.initial.page) (binding_names (bindings_list l.bindings))
