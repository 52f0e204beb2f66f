use Rattle.std.proofs.Common.{◌≡◌, drop}
use Rattle.core_form.specs.Facts.{tagbody_number}
use Rattle.core_form.specs.ListReading.{items_list}
use Rattle.icr_convert.proofs.tagbodies.tagbody_number.Given as goal

abbrev pub invariant-loop-item : goal.invariant-loop-item
invariant-loop-item l =
    tagbody_number (items_list (drop l.item-index l.items)) ≡ tagbody_number (items_list l.items)
