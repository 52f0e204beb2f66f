-- How a specifier that holds a list is read.
use Rattle.std.specs.Prelude.{◌≡◌}
use Rattle.std.proofs.Common.{refl, ap, rules}
use Rattle.lisp_base.specs.declared.types.TypeSpec.{the_lemmas}
use Rattle.lisp_base.specs.declared.types.TypeSpec.TheBlock as t
use Rattle.lisp_base.specs.Spec.{spec}
use Rattle.lisp_base.specs.Reading.{spec_of, specs_of}
use Rattle.lisp_base.specs.Laws.{specs_list, ReadsAnd, ReadsOr}

rows : (n : _) (k : t.Row_of-TypeSpec n) → specs_of k ≡ specs_list (t.items-the_row-TypeSpec n k)
rows _ t.end_of-TypeSpec = refl
rows _ (t.more_of-TypeSpec {n = n} part rest) = ap (spec (spec_of part)) (rows n rest)

pub reads_and : ReadsAnd
reads_and v = search (rules, rows, the_lemmas)

pub reads_or : ReadsOr
reads_or v = search (rules, rows, the_lemmas)
