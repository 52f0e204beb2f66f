-- How a node that holds a list is read.
use Rattle.std.specs.Prelude.{◌≡◌, refl}
use Rattle.std.proofs.Common.{ap, rules}
use Rattle.std.specs.declared.vec.Vec.{Vec}
use Rattle.std.specs.declared.alloc.Global.{Global}
use Rattle.lisp_base.specs.declared.values.Place.{Place}
use Rattle.core_form.specs.declared.tree.Core.{Core as Core', the_lemmas}
use Rattle.core_form.specs.declared.tree.Form.TheVariants as variant
use Rattle.core_form.specs.declared.tree.Form.TheBlock as t
use Rattle.lisp_base.specs.declared.primitives.Primitive.{Primitive as Primitive'}
use Rattle.core_form.specs.Tree.{Progn, Primitive, core}
use Rattle.core_form.specs.Reading.{form_of, cores_of, cores_list}

pub rows : (n : _) (k : t.Row_of-Core n) → cores_of k ≡ cores_list (t.items-the_row-Core n k)
rows _ t.end_of-Core = refl
rows _ (t.more_of-Core {n = n} q e rest) = ap (core (form_of q e)) (rows n rest)

pub reads_progn : (p : Place) (v : Vec Core' Global) → form_of p (variant.Progn v) ≡ Progn p (cores_list v.items)
reads_progn p v = search (rules, rows, the_lemmas)

pub reads_primitive : (p : Place) (q : Primitive') (v : Vec Core' Global) → form_of p (variant.Primitive q v) ≡ Primitive p q (cores_list v.items)
reads_primitive p q v = search (rules, rows, the_lemmas)
