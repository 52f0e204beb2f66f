-- Forms as sketches, and checks one after another.
use Rattle.std.specs.Prelude.{◌≡◌, refl, List, [], ◌∷◌, ◌++◌, map}
use Rattle.std.proofs.Common.{ap}
use Rattle.lisp_base.specs.declared.values.Val.{Val}
use Rattle.lisp_base.specs.declared.types.TypeSpec.{TypeSpec}
use Rattle.lisp_base.specs.Reading.{spec_of}
use Rattle.expansion.specs.Sketches.{Sketch, form, one, Checking, forms, sketch, sketches, checked}
use Rattle.form_expander.specs.declared.sketch.Sketch.TheVariants as variant
use Rattle.form_expander.specs.Reading.{sketches_list}

-- the sketches of forms, by their list
pub forms_are : (vs : List Val) → sketches_list (map (λ v. variant.Form v) vs) ≡ sketches (forms vs)
forms_are [] = refl
forms_are (v ∷ vs) = ap (sketch (form v)) (forms_are vs)

-- one more check, outermost
pub checked_more : (ts : List TypeSpec) (t : TypeSpec) (x : Sketch) → checked (map spec_of (ts ++ t ∷ [])) x ≡ one (Checking (spec_of t)) (checked (map spec_of ts) x)
checked_more [] t x = refl
checked_more (s ∷ ts) t x = checked_more ts t (one (Checking (spec_of s)) x)
