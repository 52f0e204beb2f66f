use Rattle.std.proofs.Common.{◌≡◌, ◌++◌, drop}
use Rattle.std.specs.Prelude.{filter}
use Rattle.core_form.specs.Facts.{has_number}
use Rattle.form_facts.proofs.cells.common.Given as goal

abbrev pub invariant-loop-number : goal.invariant-loop-number
invariant-loop-number l =
    l.both.items ++ filter (λ x. has_number x l.among) (drop l.number-index l.numbers) ≡ filter (λ x. has_number x l.among) l.numbers
