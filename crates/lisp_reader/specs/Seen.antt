-- The reader's progress with its tables, as the machine's world (this project's own).
use Rattle.std.specs.Prelude.{List}
use Rattle.lisp_base.specs.Tables.{Table, Object}
use Rattle.lisp_reader.specs.declared.progress.Progress.{Progress}
use Rattle.lisp_reader.specs.Building.{stock}
use Rattle.lisp_reader.specs.Held.{levels_of}
use Rattle.lisp_reader.specs.Machine.{World, world}

abbrev pub world_of : Progress → Table → List Object → World
world_of p symbols objects = world (levels_of p.levels) p.forms.items (stock symbols objects)
