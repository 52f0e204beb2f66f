use Rattle.std.proofs.Common.{◌≡◌, ◌≤◌, take, length}
use Rattle.lisp_forms.specs.Building.{made_list}
use Rattle.lisp_forms.specs.Growth.{Grows}
use Rattle.lisp_forms.proofs.template.make_list.Given as goal

abbrev pub invariant-loop-index : goal.invariant-loop-index
invariant-loop-index l = record {
  rest : made_list l.items l.fn.tail l.fn.heap ≡ made_list (take l.index l.items) l.value l.heap;
  grown : Grows l.fn.heap l.heap;
  within : l.index ≤ length l.items;
}
