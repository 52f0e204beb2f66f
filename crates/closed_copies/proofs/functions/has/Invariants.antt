use Rattle.std.proofs.Common.{◌≡◌, drop}
use Rattle.core_form.specs.Facts.{has_number}
use Rattle.closed_copies.proofs.functions.has.Given as goal

abbrev pub invariant-loop-other : goal.invariant-loop-other
invariant-loop-other l =
    has_number l.number (drop l.other-index l.numbers) ≡ has_number l.number l.numbers
