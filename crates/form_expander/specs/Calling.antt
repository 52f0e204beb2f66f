-- The bindings and the body that a lambda expression on arguments makes (this project's own).
use Rattle.std.specs.Prelude.{List}
use Rattle.lisp_base.specs.declared.values.SymId.{SymId}
use Rattle.lisp_base.specs.declared.values.Val.{Val}
use Rattle.form_expander.specs.declared.plans_of_functions.LambdaCall.{LambdaCall}

abbrev pub bindings_and_body : LambdaCall → List (SymId × Val) × List Val
bindings_and_body c = (c.bindings.items, c.forms.items)
