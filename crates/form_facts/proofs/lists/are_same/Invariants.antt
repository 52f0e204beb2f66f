use Rattle.std.proofs.Common.{◌≡◌, drop}
use Rattle.form_facts.specs.View.{lists_of}
use Rattle.form_facts.proofs.lists.are_same.Given as goal

abbrev pub invariant-loop-i : goal.invariant-loop-i
invariant-loop-i l =
    lists_of (drop l.i l.ones) ≡ lists_of (drop l.i l.others) → lists_of l.ones ≡ lists_of l.others
