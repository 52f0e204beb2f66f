-- The kinds of objects of a heap and of symbols of a table, by their numbers (this project's own).
use Rattle.std.specs.Prelude.{List, slice_get}
use Rattle.std.specs.Option.{option_map}
use Rattle.lisp_base.specs.Sort.{ObjectKind, ConsObject, VectorObject, StringObject, FunctionObject, CellObject}
use Rattle.lisp_base.specs.Tables.{Table, Object, Cons, Vector, Str, Fun, Cell}
use Rattle.lisp_base.specs.Membership.{KindAt, SymbolKind}

abbrev pub object_kind : Object → ObjectKind
object_kind (Cons car cdr place) = ConsObject
object_kind (Vector items) = VectorObject
object_kind (Str letters) = StringObject
object_kind (Fun lambda cells) = FunctionObject
object_kind (Cell v) = CellObject

abbrev pub kinds_of : List Object → KindAt
kinds_of heap = λ n. option_map object_kind (slice_get heap n)

abbrev pub symbol_kinds_of : Table → SymbolKind
symbol_kinds_of table = λ n. option_map (λ s. s.kind) (slice_get table.symbols n)
