use Rattle.std.proofs.Common.{◌≡◌, drop}
use Rattle.lisp_base.specs.Membership.{is_one_of}
use Rattle.type_spec.proofs.membership.is_among.Given as goal

abbrev pub invariant-loop-item : goal.invariant-loop-item
invariant-loop-item l = is_one_of (drop l.item-index l.items) l.v ≡ is_one_of l.items l.v
