use Rattle.std.proofs.Common.{◌≡◌, ◌++◌, map, drop}
use Rattle.lisp_base.specs.Reading.{spec_of}
use Rattle.declarations.specs.Declarations.{typed_of}
use Rattle.expansion.specs.Bindings.{types_of}
use Rattle.form_expander.proofs.bindings.types_of.Given as goal

abbrev pub invariant-loop-typed : goal.invariant-loop-typed
invariant-loop-typed l = map spec_of l.found.items ++ types_of l.symbol (map typed_of (drop l.typed-index l.types)) ≡ types_of l.symbol (map typed_of l.types)
