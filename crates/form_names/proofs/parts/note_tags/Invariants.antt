use Rattle.std.proofs.Common.{◌≡◌, ◌++◌, drop}
use Rattle.core_form.specs.ListReading.{items_list}
use Rattle.form_names.specs.Parts.{tag_parts}
use Rattle.form_names.specs.Read.{parts_list}
use Rattle.form_names.proofs.parts.note_tags.Given as goal

abbrev pub invariant-loop-item : goal.invariant-loop-item
invariant-loop-item l =
    parts_list l.noted.items ++ tag_parts l.tagbody (items_list (drop l.item-index l.items)) ≡ parts_list l.initial.noted.items ++ tag_parts l.tagbody (items_list l.items)
