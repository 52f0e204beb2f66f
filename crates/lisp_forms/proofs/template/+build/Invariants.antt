use Rattle.std.proofs.Common.{◌≡◌, map, drop}
use Rattle.lisp_forms.specs.Trees.{tree_of, trees}
use Rattle.lisp_forms.specs.Building.{built_each}
use Rattle.lisp_forms.specs.Growth.{Grows}
use Rattle.lisp_forms.proofs.Chains.{joined}
use Rattle.lisp_forms.proofs.template.+build.Given as goal

abbrev pub invariant-build_each-loop-element : goal.invariant-build_each-loop-element
invariant-build_each-loop-element l = record {
  so_far : built_each l.symbols l.before (trees (map tree_of l.elements)) l.fn.heap ≡ joined l.values.items (built_each l.symbols l.before (trees (map tree_of (drop l.element-index l.elements))) l.heap);
  grown : Grows l.fn.heap l.heap;
}
