use Rattle.std.proofs.Common.{◌≡◌, drop, map}
use Rattle.core_form.specs.Reading.{parameter_of}
use Rattle.core_form.specs.TextNames.{parameter_names}
use Rattle.core_form.specs.Text.{parameter_texts}
use Rattle.core_form.specs.TextPage.{page_of, puts, bound}
use Rattle.core_form.proofs.text_variables.write_required.Given as goal

abbrev pub invariant-loop-parameter : goal.invariant-loop-parameter
invariant-loop-parameter l =
    bound (puts (page_of l.page) (parameter_texts l.source (map parameter_of (drop l.parameter-index l.parameters)))) (parameter_names (map parameter_of (drop l.parameter-index l.parameters)))
    ≡ bound (puts (page_of l.initial.page) (parameter_texts l.source (map parameter_of l.parameters))) (parameter_names (map parameter_of l.parameters))
