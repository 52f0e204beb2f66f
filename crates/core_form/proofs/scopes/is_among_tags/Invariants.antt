use Rattle.std.proofs.Common.{◌≡◌, drop}
use Rattle.core_form.specs.Facts.{has_number}
use Rattle.core_form.specs.Checked.{tag_numbers}
use Rattle.core_form.specs.ListReading.{items_list}
use Rattle.core_form.proofs.scopes.is_among_tags.Given as goal

abbrev pub invariant-loop-item : goal.invariant-loop-item
invariant-loop-item l = has_number l.number (tag_numbers (items_list (drop l.item-index l.items))) ≡ has_number l.number (tag_numbers (items_list l.items))
