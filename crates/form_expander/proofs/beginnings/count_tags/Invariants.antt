use Rattle.std.proofs.Common.{◌≡◌, ◌+◌, drop}
use Rattle.expansion.specs.Expanding.{tags_in}
use Rattle.form_expander.proofs.beginnings.count_tags.Given as goal

abbrev pub invariant-loop-item : goal.invariant-loop-item
invariant-loop-item l = l.count + tags_in (drop l.item-index l.items) ≡ tags_in l.items
