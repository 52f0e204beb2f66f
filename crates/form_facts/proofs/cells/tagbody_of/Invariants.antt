use Rattle.std.proofs.Common.{◌≡◌, drop}
use Rattle.core_form.specs.Facts.{lookup}
use Rattle.closed_copies.specs.Walked.{tags_list}
use Rattle.form_facts.proofs.cells.tagbody_of.Given as goal

abbrev pub invariant-loop-tag : goal.invariant-loop-tag
invariant-loop-tag l =
    lookup l.number (tags_list (drop l.tag-index l.tags)) ≡ lookup l.number (tags_list l.tags)
