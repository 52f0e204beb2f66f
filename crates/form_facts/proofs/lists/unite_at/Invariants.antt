use Rattle.std.proofs.Common.{◌≡◌, drop}
use Rattle.core_form.specs.Facts.{union}
use Rattle.form_facts.specs.View.{lists_of}
use Rattle.form_facts.specs.Lists.{lists_at}
use Rattle.form_facts.proofs.lists.unite_at.Given as goal

abbrev pub invariant-loop-place : goal.invariant-loop-place
invariant-loop-place l =
    union l.all (lists_at (lists_of l.lists) (drop l.place-index l.places)) ≡ union l.initial.all (lists_at (lists_of l.lists) l.places)
