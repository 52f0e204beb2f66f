use Rattle.std.proofs.Common.{◌≡◌, ◌++◌, drop, map}
use Rattle.lisp_base.specs.Reading.{spec_of}
use Rattle.declarations.specs.Declarations.{typed_of}
use Rattle.expansion.specs.Bindings.{types_of}
use Rattle.form_expander.proofs.parameters.add_declaimed.Given as goal

abbrev pub invariant-loop-typed : goal.invariant-loop-typed
invariant-loop-typed l =
    map spec_of l.types.items ++ types_of l.name (map typed_of (drop l.typed-index l.declaimed)) ≡ map spec_of l.initial.types.items ++ types_of l.name (map typed_of l.declaimed)
