use Rattle.std.proofs.Common.{◌≡◌, ◌++◌, drop}
use Rattle.core_form.specs.Facts.{variables_under}
use Rattle.core_form.specs.Reading.{cores_list}
use Rattle.form_facts.proofs.words.note_all_under.Given as goal

abbrev pub invariant-loop-core : goal.invariant-loop-core
invariant-loop-core l =
    l.numbers.items ++ variables_under (cores_list (drop l.core-index l.cores)) ≡ l.initial.numbers.items ++ variables_under (cores_list l.cores)
