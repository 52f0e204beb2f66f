use Rattle.std.proofs.Common.{◌≡◌, ◌+◌, ◌++◌, map, drop}
use Rattle.lisp_forms.specs.Trees.{tree_of}
use Rattle.std_macros.specs.Rules.{fresh_bindings}
use Rattle.std_macros.proofs.making.add_fresh_bindings.Given as goal

abbrev pub invariant-loop-form : goal.invariant-loop-form
invariant-loop-form l = record {
  so_far : map tree_of l.elements.items ++ fresh_bindings l.number (drop l.form-index l.forms) ≡ map tree_of l.initial.elements.items ++ fresh_bindings l.fn.first l.forms;
  numbered : l.number ≡ l.fn.first + l.form-index;
}
