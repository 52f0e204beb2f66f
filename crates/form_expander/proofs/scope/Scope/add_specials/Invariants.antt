use Rattle.std.proofs.Common.{◌≡◌, drop, fold}
use Rattle.expansion.specs.Scopes.{with_special}
use Rattle.form_expander.specs.Reading.{scope_of}
use Rattle.form_expander.proofs.scope.Scope.add_specials.Given as goal

abbrev pub invariant-loop-name : goal.invariant-loop-name
invariant-loop-name l = fold with_special (scope_of l.self) (drop l.name-index l.names) ≡ fold with_special (scope_of l.initial.self) l.names
