use Rattle.std.proofs.Common.{◌≡◌, ◌++◌, drop}
use Rattle.form_names.specs.Read.{tags_list, tag_texts_of, parts_list}
use Rattle.form_names.proofs.lists.tags_in.Given as goal

abbrev pub invariant-loop-part : goal.invariant-loop-part
invariant-loop-part l =
    tags_list l.tags.items ++ tag_texts_of (parts_list (drop l.part-index l.parts)) ≡ tag_texts_of (parts_list l.parts)
