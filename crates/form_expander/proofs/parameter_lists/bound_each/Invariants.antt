use Rattle.std.proofs.Common.{◌≡◌, ◌++◌, map, drop}
use Rattle.declarations.specs.Declarations.{declared_of}
use Rattle.expansion.specs.Bindings.{bound_before}
use Rattle.form_expander.specs.Reading.{binder_of}
use Rattle.form_expander.proofs.parameter_lists.bound_each.Given as goal

abbrev pub invariant-loop-symbol : goal.invariant-loop-symbol
invariant-loop-symbol l = map binder_of l.made.items ++ map (bound_before l.later (declared_of l.declared)) (drop l.symbol-index l.symbols) ≡ map (bound_before l.later (declared_of l.declared)) l.symbols
