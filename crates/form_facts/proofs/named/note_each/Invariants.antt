use Rattle.std.proofs.Common.{◌≡◌, ◌++◌, drop}
use Rattle.form_facts.proofs.named.note_each.Given as goal

abbrev pub invariant-loop-item : goal.invariant-loop-item
invariant-loop-item l = l.named.items ++ drop l.item-index l.items ≡ l.initial.named.items ++ l.items
