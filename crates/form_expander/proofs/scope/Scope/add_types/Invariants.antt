use Rattle.std.proofs.Common.{◌≡◌, drop, fold, map}
use Rattle.declarations.specs.Declarations.{typed_of}
use Rattle.expansion.specs.Scopes.{with_type}
use Rattle.form_expander.specs.Reading.{scope_of}
use Rattle.form_expander.proofs.scope.Scope.add_types.Given as goal

abbrev pub invariant-loop-typed : goal.invariant-loop-typed
invariant-loop-typed l =
    fold with_type (scope_of l.self) (map typed_of (drop l.typed-index l.types)) ≡ fold with_type (scope_of l.initial.self) (map typed_of l.types)
