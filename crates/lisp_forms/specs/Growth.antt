-- A heap that holds what it held, unchanged, and maybe more (this project's own).
use Rattle.std.specs.Prelude.{◌≡◌, List, ◌++◌}
use Rattle.lisp_base.specs.Tables.{Object}

abbrev pub Grows : List Object → List Object → Type 0
Grows old new = (more : List Object) × (new ≡ old ++ more)
