use Rattle.std.proofs.Common.{◌≡◌, drop}
use Rattle.core_form.specs.Facts.{union}
use Rattle.closed_copies.proofs.functions.unite.Given as goal

abbrev pub invariant-loop-other : goal.invariant-loop-other
invariant-loop-other l =
    union l.numbers.items (drop l.other-index l.others) ≡ union l.initial.numbers.items l.others
