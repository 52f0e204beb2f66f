use Rattle.std.proofs.Common.{◌≡◌, ◌++◌, drop}
use Rattle.form_expander.specs.Beginnings.{names_of}
use Rattle.form_expander.specs.Reading.{scope_of}
use Rattle.form_expander.proofs.beginnings.definition_names.Given as goal

abbrev pub invariant-loop-value : goal.invariant-loop-value
invariant-loop-value l =
    l.names.items ++ names_of (scope_of l.scope) l.heap l.number (drop l.value-index l.definitions) ≡ names_of (scope_of l.scope) l.heap l.fn.number l.definitions
