use Rattle.std.proofs.Common.{◌≡◌, ◌++◌, map, drop}
use Rattle.lisp_forms.specs.Trees.{tree_of}
use Rattle.std_macros.specs.Rules.{forms}
use Rattle.std_macros.proofs.making.add_forms.Given as goal

abbrev pub invariant-loop-form : goal.invariant-loop-form
invariant-loop-form l = map tree_of l.elements.items ++ forms (drop l.form-index l.forms) ≡ map tree_of l.initial.elements.items ++ forms l.forms
