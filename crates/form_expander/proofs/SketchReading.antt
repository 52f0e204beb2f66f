-- How the sketches that hold lists, and functions, are read.
use Rattle.std.specs.Prelude.{◌≡◌, refl}
use Rattle.std.proofs.Common.{ap, rules}
use Rattle.std.specs.declared.vec.Vec.{Vec}
use Rattle.std.specs.declared.alloc.Global.{Global}
use Rattle.std.specs.declared.boxed.Box.{Box}
use Rattle.expansion.specs.declared.heads.Many.{Many}
use Rattle.expansion.specs.declared.heads.Calling.{Calling}
use Rattle.expansion.specs.Sketches.{many, calling, function, recursive, sketch}
use Rattle.form_expander.specs.declared.sketch.Sketch.{Sketch as Sketch', the_lemmas}
use Rattle.form_expander.specs.declared.sketch.Sketch.TheVariants as variant
use Rattle.form_expander.specs.declared.sketch.Sketch.TheBlock as t
use Rattle.form_expander.specs.declared.sketch.Function.{Function as Function'}
use Rattle.lisp_base.specs.declared.values.SymId.{SymId}
use Rattle.form_expander.specs.Reading.{sketch_of, sketches_of, sketches_list, function_from}

pub rows : (n : _) (k : t.Row_of-Sketch n) → sketches_of k ≡ sketches_list (t.items-the_row-Sketch n k)
rows _ t.end_of-Sketch = refl
rows _ (t.more_of-Sketch {n = n} x rest) = ap (sketch (sketch_of x)) (rows n rest)

pub reads_many : (h : Many) (v : Vec Sketch' Global) → sketch_of (variant.Many h v) ≡ many h (sketches_list v.items)
reads_many h v = search (rules, rows, the_lemmas)

pub reads_calling : (h : Calling) (b : Box Sketch' Global) (v : Vec Sketch' Global) → sketch_of (variant.Calling h b v) ≡ calling h (sketch_of b.value) (sketches_list v.items)
reads_calling h b v = search (rules, rows, the_lemmas)

pub reads_function : (f : Function') → sketch_of (variant.Function f) ≡ function (function_from f)
reads_function f = refl

pub reads_recursive : (s : SymId) (f : Function') → sketch_of (variant.Recursive s f) ≡ recursive s (function_from f)
reads_recursive s f = refl
