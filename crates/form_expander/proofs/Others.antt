-- What is declared of variables other than some.
use Rattle.std.specs.Prelude.{List, not, filter}
use Rattle.lisp_base.specs.declared.values.SymId.{SymId}
use Rattle.declarations.specs.Declarations.{Typed}
use Rattle.expansion.specs.Bindings.{is_among}

abbrev pub other_typed : List SymId → List Typed → List Typed
other_typed bound = filter (λ t. not (is_among bound t.variable))
