use Rattle.std.proofs.Common.{◌≡◌, drop}
use Rattle.form_expander.specs.Beginnings.{with_names}
use Rattle.form_expander.specs.Reading.{scope_of}
use Rattle.form_expander.proofs.scope.Scope.add_functions.Given as goal

abbrev pub invariant-loop-name : goal.invariant-loop-name
invariant-loop-name l = with_names (drop l.name-index l.names) (scope_of l.self) ≡ with_names l.names (scope_of l.fn.self)
