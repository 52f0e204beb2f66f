use Rattle.std.proofs.Common.{◌≡◌, drop}
use Rattle.core_form.specs.Facts.{union}
use Rattle.form_facts.proofs.numbers.Numbers.unite.Given as goal

abbrev pub invariant-loop-other : goal.invariant-loop-other
invariant-loop-other l =
    union l.self (drop l.other-index l.others) ≡ union l.initial.self l.others
