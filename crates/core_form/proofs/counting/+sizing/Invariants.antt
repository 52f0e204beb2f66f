use Rattle.std.proofs.Common.{◌≡◌, drop}
use Rattle.core_form.specs.Counting.{with_sizes}
use Rattle.lisp_base.specs.Laws.{specs_list}
use Rattle.core_form.proofs.counting.+sizing.Given as goal

abbrev pub invariant-add_sizes-loop-part : goal.invariant-add_sizes-loop-part
invariant-add_sizes-loop-part l =
    with_sizes l.total (specs_list (drop l.part-index l.parts)) ≡ with_sizes l.fn.total (specs_list l.parts)
