use Rattle.std.proofs.Common.{◌≡◌, [], drop}
use Rattle.core_form.specs.Facts.{union}
use Rattle.form_facts.specs.View.{lists_of}
use Rattle.form_facts.specs.Lists.{joined}
use Rattle.form_facts.proofs.lists.joined_in.Given as goal

abbrev pub invariant-loop-list : goal.invariant-loop-list
invariant-loop-list l =
    union l.all (joined (lists_of (drop l.list-index l.lists))) ≡ union [] (joined (lists_of l.lists))
