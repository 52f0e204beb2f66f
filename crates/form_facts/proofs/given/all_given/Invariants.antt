use Rattle.std.proofs.Common.{◌≡◌, ◌++◌, drop}
use Rattle.form_facts.specs.Given.{at_numbers}
use Rattle.form_facts.proofs.given.all_given.Given as goal

abbrev pub invariant-loop-one : goal.invariant-loop-one
invariant-loop-one l = l.numbers.items ++ at_numbers l.given (drop l.one-index l.to) ≡ at_numbers l.given l.to
