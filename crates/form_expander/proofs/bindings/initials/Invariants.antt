use Rattle.std.proofs.Common.{◌≡◌, ◌++◌, map, drop}
use Rattle.declarations.specs.Declarations.{declared_of}
use Rattle.expansion.specs.Bindings.{initials}
use Rattle.form_expander.specs.Reading.{initial_of}
use Rattle.form_expander.proofs.bindings.initials.Given as goal

abbrev pub invariant-loop-variable : goal.invariant-loop-variable
invariant-loop-variable l = map initial_of l.made.items ++ initials (declared_of l.declared) (drop l.variable-index l.bindings) ≡ initials (declared_of l.declared) l.bindings
