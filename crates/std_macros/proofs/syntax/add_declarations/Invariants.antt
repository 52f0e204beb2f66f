use Rattle.std.proofs.Common.{◌≡◌, ◌++◌, map, drop}
use Rattle.lisp_forms.specs.Trees.{tree_of}
use Rattle.std_macros.specs.Rules.{forms}
use Rattle.std_macros.specs.Syntax.{parted}
use Rattle.std_macros.proofs.syntax.add_declarations.Given as goal

abbrev pub invariant-loop-form : goal.invariant-loop-form
invariant-loop-form l = map tree_of l.elements.items ++ forms (parted l.heap (drop l.form-index l.body)).declarations ≡ map tree_of l.initial.elements.items ++ forms (parted l.heap l.body).declarations
