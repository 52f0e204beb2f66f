-- How a specifier that holds several types is read.
use Rattle.std.specs.Prelude.{◌≡◌, refl}
use Rattle.std.proofs.Common.{ap, rules}
use Rattle.std.specs.declared.vec.Vec.{Vec}
use Rattle.std.specs.declared.alloc.Global.{Global}
use Rattle.lisp_base.specs.declared.types.TypeSpec.{TypeSpec, the_lemmas}
use Rattle.lisp_base.specs.declared.types.TypeSpec.TheVariants as variant
use Rattle.lisp_base.specs.declared.types.TypeSpec.TheBlock as t
use Rattle.lisp_base.specs.Spec.{And, Or, spec}
use Rattle.lisp_base.specs.Reading.{spec_of, specs_of}
use Rattle.lisp_base.specs.SpecLists.{specs_list}

pub rows : (n : _) (k : t.Row_of-TypeSpec n) → specs_of k ≡ specs_list (t.items-the_row-TypeSpec n k)
rows _ t.end_of-TypeSpec = refl
rows _ (t.more_of-TypeSpec {n = n} q rest) = ap (spec (spec_of q)) (rows n rest)

pub reads_or : (v : Vec TypeSpec Global) → spec_of (variant.Or v) ≡ Or (specs_list v.items)
reads_or v = search (rules, rows, the_lemmas)

pub reads_and : (v : Vec TypeSpec Global) → spec_of (variant.And v) ≡ And (specs_list v.items)
reads_and v = search (rules, rows, the_lemmas)
