use Rattle.std.proofs.Common.{◌≡◌, ◌++◌, drop}
use Rattle.core_form.specs.Facts.{without}
use Rattle.form_facts.proofs.numbers.others_of.Given as goal

abbrev pub invariant-loop-number : goal.invariant-loop-number
invariant-loop-number l =
    l.others.items ++ without (drop l.number-index l.numbers) l.among ≡ without l.numbers l.among
