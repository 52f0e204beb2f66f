use Rattle.std.proofs.Common.{◌≡◌, map, drop}
use Rattle.lisp_forms.specs.Trees.{tree_of}
use Rattle.lisp_forms.specs.Growth.{Grows}
use Rattle.std_macros.specs.Expanding.{built_around}
use Rattle.std_macros.proofs.expand.build_around.Given as goal

abbrev pub invariant-loop-template : goal.invariant-loop-template
invariant-loop-template l = record {
  so_far : built_around l.symbols (map tree_of (drop l.template-index l.around)) (l.form, l.heap) ≡ built_around l.symbols (map tree_of l.around) (l.fn.first, l.fn.heap);
  grown : Grows l.fn.heap l.heap;
}
