use Rattle.std.proofs.Common.{◌≡◌, drop}
use Rattle.lisp_base.specs.Membership.{is_one_of}
use Rattle.form_facts.specs.Samples.{value_of}
use Rattle.form_facts.proofs.samples.is_among.Given as goal

abbrev pub invariant-loop-item : goal.invariant-loop-item
invariant-loop-item l =
    is_one_of (drop l.item-index l.items) (value_of l.greatest l.sample) ≡ is_one_of l.items (value_of l.greatest l.sample)
