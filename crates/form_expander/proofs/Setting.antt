-- Checks after checks, and parts one after another.
use Rattle.std.proofs.Common.{◌≡◌, ◌<◌, ◌≤◌, List, [], ◌∷◌, ◌++◌, length, map, refl, ap, arith}
use Rattle.std.proofs.lemmas.List.{length-append}
use Rattle.lisp_base.specs.Spec.{Spec}
use Rattle.expansion.specs.declared.heads.Many.TheVariants.{Sequence}
use Rattle.expansion.specs.Sketches.{Sketch, Sketches, sketch, sketches, one, many, Checking, checked, progn}
use Rattle.form_expander.specs.declared.sketch.Sketch.{Sketch as Sketch'}
use Rattle.form_expander.specs.Reading.{sketch_of, sketches_list}

-- the first types are checked inside the others
pub checked_on : (ts us : List Spec) (x : Sketch) → checked (ts ++ us) x ≡ checked us (checked ts x)
checked_on [] us x = refl
checked_on (t ∷ ts) us x = checked_on ts us (one (Checking t) x)

pub listed : (xs : List Sketch') → sketches (map sketch_of xs) ≡ sketches_list xs
listed [] = refl
listed (x ∷ xs) = ap (sketch (sketch_of x)) (listed xs)

pub progn_many : (xs : List Sketch') → 1 < length xs → progn (map sketch_of xs) ≡ many Sequence (sketches_list xs)
progn_many [] h = absurd (omega arith)
progn_many (x ∷ []) h = absurd (omega arith)
progn_many (x ∷ y ∷ xs) h = ap (λ (rest : Sketches). many Sequence (sketch (sketch_of x) (sketch (sketch_of y) rest))) (listed xs)

pub progn_last : (xs front : List Sketch') (x : Sketch') → xs ≡ front ++ x ∷ [] → length xs ≤ 1 → progn (map sketch_of xs) ≡ sketch_of x
progn_last xs [] x is h = ap (λ (l : List Sketch'). progn (map sketch_of l)) is
progn_last xs (y ∷ front) x is h = absurd (omega (arith, ap length is, length-append front (x ∷ [])))
