use Rattle.std.proofs.Common.{◌≡◌, drop}
use Rattle.core_form.specs.ListReading.{definitions_list}
use Rattle.core_form.specs.TextNames.{function_names}
use Rattle.core_form.specs.TextPage.{page_of, bound}
use Rattle.core_form.proofs.text_variables.know_functions.Given as goal

abbrev pub invariant-loop-definition : goal.invariant-loop-definition
invariant-loop-definition l = bound (page_of l.page) (function_names (definitions_list (drop l.definition-index l.definitions))) ≡ bound (page_of l.initial.page) (function_names (definitions_list l.definitions))
