use Rattle.std.proofs.Common.{◌≡◌, drop}
use Rattle.closed_copies.specs.Table.{place_from}
use Rattle.closed_copies.proofs.functions.place_of.Given as goal

abbrev pub invariant-loop-i : goal.invariant-loop-i
invariant-loop-i l =
    place_from l.i l.number (drop l.i l.numbers) ≡ place_from 0 l.number l.numbers
