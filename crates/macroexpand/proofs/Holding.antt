-- The functions of the prelude whose names are mentioned, one after another.
use Rattle.std.proofs.Common.{◌≡◌, ◌∙◌, ap, sym, subst, refl, Bool, true, false, List, [], ◌∷◌, ◌++◌, map}
use Rattle.std.specs.Prelude.{◌↔◌, if◌then◌else◌}
use Rattle.std.proofs.lemmas.List.{map-append}
use Rattle.lisp_base.specs.declared.values.SymId.{SymId}
use Rattle.lisp_base.specs.declared.values.Val.TheVariants.{Sym}
use Rattle.lisp_base.specs.Tables.{Object}
use Rattle.core_form.specs.declared.tree.TopForm.{TopForm}
use Rattle.core_form.specs.Tree.{Top}
use Rattle.core_form.specs.Reading.{top_of, tops_of}
use Rattle.program_size.specs.declared.prelude_functions.PreludeFunction.{PreludeFunction}
use Rattle.program_size.specs.declared.sizes.Sizes.{Sizes}
use Rattle.program_size.specs.Mentions.{Function, Sized, Mentions}
use Rattle.program_size.specs.Sizes.{Chosen, none, taken, passed}
use Rattle.program_size.specs.Counting.{Counts}
use Rattle.file_expansion.specs.Files.{Helper}
use Rattle.macroexpand.specs.Going.{helper_from, helpers_from, HeldForms, HoldsMentioned}

module _ {P : PreludeFunction → Type 0} (f : PreludeFunction) where
  one_taken : (fs ps : List PreludeFunction) → P f → Chosen P fs ps → Chosen P (fs ++ f ∷ []) (ps ++ f ∷ [])
  one_taken _ _ y none = taken f [] [] y none
  one_taken _ _ y (taken x xs ys p c) = taken x (xs ++ f ∷ []) (ys ++ f ∷ []) p (one_taken xs ys y c)
  one_taken _ _ y (passed x xs ys n c) = passed x (xs ++ f ∷ []) (ys ++ f ∷ []) n (one_taken xs ys y c)

  one_passed : (fs ps : List PreludeFunction) → (P f → ⊥) → Chosen P fs ps → Chosen P (fs ++ f ∷ []) ps
  one_passed _ _ n none = passed f [] [] n none
  one_passed _ _ n (taken x xs ys p c) = taken x (xs ++ f ∷ []) ys p (one_passed xs ys n c)
  one_passed _ _ n (passed x xs ys m c) = passed x (xs ++ f ∷ []) ys m (one_passed xs ys n c)

abbrev pub Named : Sizes → SymId → Bool → Type 0
Named s name b = (prelude : List Function) (heap : List Object) (forms : List Sized) → Counts s prelude heap forms → (b ≡ true) ↔ Mentions heap prelude forms (Sym name)

pub none_held : (s : Sizes) → HoldsMentioned s [] []
none_held s = λ heap prelude forms counts. record { functions = []; chosen = none; are = refl }

one_held : (s : Sizes) (fs : List PreludeFunction) (held : List TopForm) (f : PreludeFunction) (b : Bool) → Named s f.name b → b ≡ true →
    HoldsMentioned s fs held → HoldsMentioned s (fs ++ f ∷ []) (held ++ f.form ∷ [])
one_held s fs held f b named is h = λ heap prelude forms counts.
    let so_far : HeldForms heap prelude forms fs held = h heap prelude forms counts in
    record {
      functions = so_far.functions ++ f ∷ [];
      chosen = one_taken {P = λ g. Mentions heap prelude forms (Sym g.name)} f fs so_far.functions ((named prelude heap forms counts).0 is) so_far.chosen;
      are = ap (λ (l : List TopForm). l ++ f.form ∷ []) so_far.are ∙ sym (map-append (λ (g : PreludeFunction). g.form) so_far.functions (f ∷ []));
    }

none_more : (s : Sizes) (fs : List PreludeFunction) (held : List TopForm) (f : PreludeFunction) (b : Bool) → Named s f.name b → b ≡ false →
    HoldsMentioned s fs held → HoldsMentioned s (fs ++ f ∷ []) held
none_more s fs held f b named is h = λ heap prelude forms counts.
    let so_far : HeldForms heap prelude forms fs held = h heap prelude forms counts in
    record {
      functions = so_far.functions;
      chosen = one_passed {P = λ g. Mentions heap prelude forms (Sym g.name)} f fs so_far.functions (λ m. differ b is ((named prelude heap forms counts).1 m)) so_far.chosen;
      are = so_far.are;
    }
  where
    differ : (c : Bool) → c ≡ false → c ≡ true → ⊥
    differ true n y = absurd (cc)
    differ false n y = absurd (cc)

pub held_next : (s : Sizes) (fs : List PreludeFunction) (held new : List TopForm) (f : PreludeFunction) (b : Bool) → Named s f.name b →
    new ≡ (if b then held ++ f.form ∷ [] else held) → HoldsMentioned s fs held → HoldsMentioned s (fs ++ f ∷ []) new
held_next s fs held new f true named is h = subst (HoldsMentioned s (fs ++ f ∷ [])) (sym is) (one_held s fs held f true named refl h)
held_next s fs held new f false named is h = subst (HoldsMentioned s (fs ++ f ∷ [])) (sym is) (none_more s fs held f false named refl h)

-- the same functions, as the definition names them
pub chosen_helpers : (Q : Helper → Type 0) (fs ps : List PreludeFunction) → Chosen (λ f. Q (helper_from f)) fs ps → Chosen Q (helpers_from fs) (helpers_from ps)
chosen_helpers Q _ _ none = none
chosen_helpers Q _ _ (taken f fs ps y c) = taken (helper_from f) (helpers_from fs) (helpers_from ps) y (chosen_helpers Q fs ps c)
chosen_helpers Q _ _ (passed f fs ps n c) = passed (helper_from f) (helpers_from fs) (helpers_from ps) n (chosen_helpers Q fs ps c)

pub forms_held : (fs : List PreludeFunction) → tops_of (map (λ (f : PreludeFunction). f.form) fs) ≡ map (λ (h : Helper). h.form) (helpers_from fs)
forms_held [] = refl
forms_held (f ∷ fs) = ap (λ (l : List Top). top_of f.form ∷ l) (forms_held fs)
