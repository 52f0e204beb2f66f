use Rattle.std.proofs.Common.{◌≡◌, ◌++◌, map, drop}
use Rattle.lisp_forms.specs.Trees.{tree_of}
use Rattle.std_macros.specs.Rules.{fresh_sets}
use Rattle.std_macros.proofs.making.add_fresh_sets.Given as goal

abbrev pub invariant-loop-variable : goal.invariant-loop-variable
invariant-loop-variable l = record {
  so_far : map tree_of l.elements.items ++ fresh_sets l.number (drop l.variable-index l.variables) ≡ map tree_of l.initial.elements.items ++ fresh_sets 0 l.variables;
  numbered : l.number ≡ l.variable-index;
}
