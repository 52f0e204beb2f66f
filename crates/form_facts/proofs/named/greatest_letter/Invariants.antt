use Rattle.std.proofs.Common.{◌≡◌, max, drop}
use Rattle.core_form.specs.Facts.{greatest_letter}
use Rattle.form_facts.proofs.named.greatest_letter.Given as goal

abbrev pub invariant-loop-item : goal.invariant-loop-item
invariant-loop-item l = max l.greatest (greatest_letter (drop l.item-index l.items)) ≡ greatest_letter l.items
