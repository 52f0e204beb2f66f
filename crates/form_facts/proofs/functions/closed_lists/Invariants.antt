use Rattle.std.proofs.Common.{◌≡◌, ◌++◌, drop}
use Rattle.closed_copies.specs.Walked.{tags_list}
use Rattle.form_facts.specs.View.{lists_of}
use Rattle.form_facts.specs.Read.{parts_list}
use Rattle.form_facts.specs.Lists.{closed_of_parts}
use Rattle.form_facts.proofs.functions.closed_lists.Given as goal

abbrev pub invariant-loop-part : goal.invariant-loop-part
invariant-loop-part l =
    lists_of l.closed.items ++ closed_of_parts (tags_list l.locals.tags.items) l.locals.numbers.items (lists_of l.locals.lists.items) (parts_list (drop l.part-index l.parts)) ≡ closed_of_parts (tags_list l.locals.tags.items) l.locals.numbers.items (lists_of l.locals.lists.items) (parts_list l.parts)
