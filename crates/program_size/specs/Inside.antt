-- The values right inside an object of a heap. (This project's own.)
use Rattle.std.specs.Prelude.{List, [], ◌∷◌}
use Rattle.lisp_base.specs.declared.values.Val.{Val}
use Rattle.lisp_base.specs.Tables.{Object, Cons, Vector, Str, Fun, Cell}

abbrev pub inside_object : Object → List Val
inside_object (Cons car cdr place) = car ∷ cdr ∷ []
inside_object (Vector items) = items
inside_object (Str letters) = []
inside_object (Fun lambda cells) = []
inside_object (Cell v) = []
