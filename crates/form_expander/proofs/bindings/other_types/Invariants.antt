use Rattle.std.proofs.Common.{◌≡◌, ◌++◌, map, drop}
use Rattle.declarations.specs.Declarations.{typed_of}
use Rattle.form_expander.proofs.Others.{other_typed}
use Rattle.form_expander.proofs.bindings.other_types.Given as goal

abbrev pub invariant-loop-typed : goal.invariant-loop-typed
invariant-loop-typed l = map typed_of l.kept.items ++ other_typed l.bound (map typed_of (drop l.typed-index l.types)) ≡ other_typed l.bound (map typed_of l.types)
