use Rattle.std.proofs.Common.{◌≡◌, ◌+◌, drop}
use Rattle.lisp_base.specs.Laws.{specs_list}
use Rattle.lisp_base.specs.Spec.{specs_size}
use Rattle.form_expander.proofs.sizes.+sizes.Given as goal

abbrev pub invariant-add_parts-loop-part : goal.invariant-add_parts-loop-part
invariant-add_parts-loop-part l = l.total + specs_size (specs_list (drop l.part-index l.parts)) ≡ l.fn.total + specs_size (specs_list l.parts)
