use Rattle.std.proofs.Common.{◌≡◌, drop}
use Rattle.core_form.specs.ListReading.{items_list}
use Rattle.core_form.specs.TextNames.{tag_names}
use Rattle.core_form.specs.TextPage.{page_of, bound}
use Rattle.core_form.proofs.text_variables.know_tags.Given as goal

abbrev pub invariant-loop-item : goal.invariant-loop-item
invariant-loop-item l = bound (page_of l.page) (tag_names (items_list (drop l.item-index l.items))) ≡ bound (page_of l.initial.page) (tag_names (items_list l.items))
