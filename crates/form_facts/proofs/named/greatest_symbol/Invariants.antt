use Rattle.std.proofs.Common.{◌≡◌, ◌≤◌, max, drop}
use Rattle.core_form.specs.Facts.{greatest_symbol}
use Rattle.form_facts.proofs.named.greatest_symbol.Given as goal

abbrev pub invariant-loop-item : goal.invariant-loop-item
invariant-loop-item l = record {
  all : max l.greatest (greatest_symbol (drop l.item-index l.items)) ≡ greatest_symbol l.items;
  least : 1 ≤ l.greatest;
}
