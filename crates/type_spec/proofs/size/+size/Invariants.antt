use Rattle.std.proofs.Common.{◌≡◌, ◌+◌, drop}
use Rattle.lisp_base.specs.Spec.{specs_size}
use Rattle.lisp_base.specs.Laws.{specs_list}
use Rattle.type_spec.proofs.size.+size.Given as goal

abbrev pub invariant-parts_size-loop-part : goal.invariant-parts_size-loop-part
invariant-parts_size-loop-part l =
    l.size + specs_size (specs_list (drop l.part-index l.parts)) ≡ specs_size (specs_list l.parts)
