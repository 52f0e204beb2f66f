-- A tree is added to a program that grows.
use Rattle.std.proofs.Common.{◌≡◌, ◌∙◌, ap, sym, subst, refl, ℕ, Bool, true, false, List, [], ◌∷◌, ◌++◌, map}
use Rattle.std.specs.Prelude.{◌↔◌}
use Rattle.std.proofs.lemmas.List.{map-append}
use Rattle.lisp_base.specs.Tables.{Object}
use Rattle.core_form.specs.declared.tree.TopForm.{TopForm}
use Rattle.core_form.specs.Tree.{Top}
use Rattle.core_form.specs.Reading.{core_of, top_of}
use Rattle.core_form.specs.Lawful.{quoted}
use Rattle.closed_copies.specs.Copies.{closed_copies}
use Rattle.program_size.specs.declared.prelude_functions.PreludeFunction.{PreludeFunction}
use Rattle.program_size.specs.declared.sizes.Sizes.{Sizes}
use Rattle.program_size.specs.Mentions.{Function, Sized, sized, functions_of as counted_functions}
use Rattle.program_size.specs.Sizes.{IsTooLarge}
use Rattle.program_size.specs.Counting.{Counts, Adds, AreThere}
use Rattle.expansion.specs.declared.kind.ExpandKind.TheVariants as kind
use Rattle.macroexpand.specs.declared.trees.Measured.{Measured}
use Rattle.macroexpand.specs.declared.tops.Growing.{Growing}
use Rattle.file_expansion.specs.Tops.{measured}
use Rattle.macroexpand.specs.Going.{prelude_of, trees_of, HadCounted, AddsTree, IsLargeWith}

sized_is : (form : TopForm) (copies : ℕ) → copies ≡ closed_copies (core_of form.core) → sized form copies ≡ measured (top_of form)
sized_is form copies is = ap (λ (n : ℕ). record { core = core_of form.core; nodes = form.nodes; copies = n }) is

-- the forms as they are counted, with one more
abbrev pub With : Growing → Measured → List Sized
With g m = map measured (trees_of g ++ top_of m.form ∷ [])

pub counted_with : (g : Growing) (heap : List Object) (m : Measured) (s : Sizes) (fs : List PreludeFunction) → fs ≡ g.prelude.items → HadCounted g heap → AreThere heap (quoted (core_of m.form.core)) →
    m.copies ≡ closed_copies (core_of m.form.core) → Adds heap (counted_functions fs) (sized m.form m.copies) g.sizes s →
    Counts s (prelude_of g) heap (With g m)
counted_with g heap m s fs same had there is adds =
    let had_same : counted_functions fs ≡ prelude_of g = ap counted_functions same ∙ had.same in
    let before : Counts g.sizes (counted_functions fs) had.before (map measured (trees_of g)) =
    subst (λ (l : List Function). Counts g.sizes l had.before (map measured (trees_of g))) (sym had_same) had.counts in
    let after : Counts s (counted_functions fs) heap (map measured (trees_of g) ++ sized m.form m.copies ∷ []) =
    adds had.before had.more (map measured (trees_of g)) had.heap_is there before in
    let forms : map measured (trees_of g) ++ sized m.form m.copies ∷ [] ≡ With g m =
    ap (λ (x : Sized). map measured (trees_of g) ++ x ∷ []) (sized_is m.form m.copies is) ∙ sym (map-append measured (trees_of g) (top_of m.form ∷ [])) in
    subst (λ (l : List Sized). Counts s (prelude_of g) heap l) forms
    (subst (λ (l : List Function). Counts s l heap (map measured (trees_of g) ++ sized m.form m.copies ∷ [])) had_same after)

-- how large a program is of which this was counted
abbrev pub Tells : Sizes → Bool → Type 0
Tells s b = (prelude : List Function) (heap : List Object) (forms : List Sized) → Counts s prelude heap forms → (b ≡ true) ↔ IsTooLarge heap prelude forms

pub added : (old new : Growing) (heap : List Object) (m : Measured) (b : Bool) (fs : List PreludeFunction) → fs ≡ old.prelude.items → HadCounted old heap → AreThere heap (quoted (core_of m.form.core)) →
    m.copies ≡ closed_copies (core_of m.form.core) → Adds heap (counted_functions fs) (sized m.form m.copies) old.sizes new.sizes →
    Tells new.sizes b → b ≡ false → new.prelude ≡ old.prelude → trees_of new ≡ trees_of old ++ top_of m.form ∷ [] → AddsTree old new heap m
added old new heap m b fs same had there is adds tells within prelude forms =
    let counts : Counts new.sizes (prelude_of old) heap (With old m) = counted_with old heap m new.sizes fs same had there is adds in
    record {
      prelude = prelude;
      forms = forms;
      counts = subst (λ (ts : List Top). Counts new.sizes (prelude_of old) heap (map measured ts)) (sym forms) counts;
      small = λ large. differ b within ((tells (prelude_of old) heap (With old m) counts).1 large);
    }
  where
    differ : (c : Bool) → c ≡ false → c ≡ true → ⊥
    differ true n y = absurd (cc)
    differ false n y = absurd (cc)

pub too_large_with : (old : Growing) (heap : List Object) (m : Measured) (s : Sizes) (b : Bool) (fs : List PreludeFunction) → fs ≡ old.prelude.items → HadCounted old heap → AreThere heap (quoted (core_of m.form.core)) →
    m.copies ≡ closed_copies (core_of m.form.core) → Adds heap (counted_functions fs) (sized m.form m.copies) old.sizes s →
    Tells s b → b ≡ true → IsLargeWith old heap m kind.ProgramTooLarge m.form.place
too_large_with old heap m s b fs same had there is adds tells past = record {
  is = refl;
  at = refl;
  large = (tells (prelude_of old) heap (With old m) (counted_with old heap m s fs same had there is adds)).0 past;
}
