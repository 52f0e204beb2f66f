use Rattle.std.proofs.Common.{◌≡◌, ◌+◌, drop}
use Rattle.lisp_base.specs.Laws.{specs_list}
use Rattle.lisp_base.specs.Spec.{specs_size}
use Rattle.icr_convert.proofs.copies.+sizes.Given as goal

abbrev pub invariant-sizes_of-loop-part : goal.invariant-sizes_of-loop-part
invariant-sizes_of-loop-part l = l.total + specs_size (specs_list (drop l.part-index l.parts)) ≡ specs_size (specs_list l.parts)
