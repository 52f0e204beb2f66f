use Rattle.std.proofs.Common.{◌≡◌, ◌++◌, take}
use Rattle.form_facts.proofs.given.add_all.Given as goal

abbrev pub invariant-loop-other : goal.invariant-loop-other
invariant-loop-other l = l.numbers.items ≡ l.fn.numbers.items ++ take l.other-index l.others
