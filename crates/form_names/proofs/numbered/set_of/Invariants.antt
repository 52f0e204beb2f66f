use Rattle.std.proofs.Common.{◌≡◌, ℕ, ◌||◌, drop}
use Rattle.core_form.specs.Facts.{has_number}
use Rattle.form_names.proofs.numbered.set_of.Given as goal

abbrev pub invariant-loop-number : goal.invariant-loop-number
invariant-loop-number l =
    (q : ℕ) → (has_number q l.set.keys || has_number q (drop l.number-index l.numbers)) ≡ has_number q l.numbers
