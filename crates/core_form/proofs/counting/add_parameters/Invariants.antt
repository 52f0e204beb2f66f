use Rattle.std.proofs.Common.{◌≡◌, drop}
use Rattle.core_form.specs.Counting.{with_parameters}
use Rattle.core_form.specs.ListReading.{parameters_list}
use Rattle.core_form.proofs.counting.add_parameters.Given as goal

abbrev pub invariant-loop-parameter : goal.invariant-loop-parameter
invariant-loop-parameter l =
    with_parameters l.total (parameters_list (drop l.parameter-index l.parameters)) ≡ with_parameters l.fn.total (parameters_list l.parameters)
