-- The whole program is lawful, and its size is counted over what its constants reach.
use Rattle.std.proofs.Common.{◌≡◌, ◌≢◌, ◌∙◌, ap, sym, subst, refl, suc, true, List, [], ◌∷◌, ◌++◌, length, map, Option, Some, None, is_some, arith}
use Rattle.std.specs.Prelude.{slice_get}
use Rattle.std.specs.Option.{option_map}
use Rattle.std.specs.List.{All, AllPairs, Contains}
use Rattle.std.proofs.lemmas.List.{length-map, map-append}
use Rattle.std.proofs.lemmas.List.Elements.{All-nil, All-cons, All-head, All-tail}
use Rattle.std.proofs.lemmas.List.Kept.{AllPairs-cons}
use Rattle.std.proofs.lemmas.Option.{slice_get-map}
use Rattle.lisp_base.specs.declared.values.ObjId.{ObjId}
use Rattle.lisp_base.specs.declared.values.SymId.{SymId}
use Rattle.lisp_base.specs.declared.values.Val.{Val}
use Rattle.lisp_base.specs.declared.values.Val.TheVariants.{Int, Char, Sym, Ref}
use Rattle.lisp_base.specs.Sort.{index_of}
use Rattle.lisp_base.specs.Tables as table
use Rattle.core_form.specs.declared.tree.TopForm.{TopForm}
use Rattle.core_form.specs.Tree.{Top}
use Rattle.core_form.specs.Reading.{top_of, tops_of}
use Rattle.core_form.specs.Eval.{Program}
use Rattle.core_form.specs.Checked.{TopsAreBuilt}
use Rattle.core_form.specs.Facts.{function_given}
use Rattle.core_form.specs.Lawful.{parts_of, meant, symbol_of, object_of, IsDatum, Reaches, itself, within, values_in, quoted, TopsAreLawful, AreDefinitions, names_given, BeginWithNames, IsLawful}
use Rattle.program_size.specs.declared.prelude_functions.PreludeFunction.{PreludeFunction}
use Rattle.program_size.specs.Mentions.{data_of}
use Rattle.program_size.specs.Sizes.{Chosen, none, taken, passed}
use Rattle.program_size.specs.Counting.{AreThere}
use Rattle.expansion.specs.Steps.{World}
use Rattle.file_expansion.specs.Laws.{program_at, IsLawfulTree, IsSoundWorld}
use Rattle.macroexpand.specs.Going.{AreLawfulTrees, DefinesName, AreFunctions, names_from}
use Rattle.macroexpand.proofs.Growth.{lawful_between}

-- ---- what constants reach

-- reaching depends on objects alone
reaches_in : (heap : List table.Object) (p : Program) (v x : Val) → p.heap ≡ map object_of heap → Reaches (data_of heap) v x → Reaches p v x
reaches_in heap p v _ is itself = itself
reaches_in heap p v _ is (within y x r c) = within y x (reaches_in heap p v y is r) (inside y c)
  where
    inside : (y : Val) → Contains (values_in (data_of heap) y) x → Contains (values_in p y) x
    inside (Int z) c = c
    inside (Char k) c = c
    inside (Sym s) c = c
    inside (Ref o) c = rw is c

datum_there : (heap : List table.Object) (p : Program) (o : ObjId) (x : Option table.Object) → p.heap ≡ map object_of heap → slice_get heap (index_of o) ≡ x → IsDatum p (Ref o) → is_some x ≡ true
datum_there heap p o (Some x) is e h = refl
datum_there heap p o None is e h =
    let missing : slice_get p.heap (index_of o) ≡ None =
    ap (λ (l : List _). slice_get l (index_of o)) is ∙ (slice_get-map object_of heap (index_of o) ∙ ap (option_map object_of) e) in
    absurd (rw missing at h)

pub tree_there : (w : World) (t : Top) → IsLawfulTree w t → AreThere w.heap (quoted t.core)
tree_there w t h o r =
    datum_there w.heap (program_at w) o (slice_get w.heap (index_of o)) refl refl
    (h.lawful.data_there r.0 (Ref o) r.1 (reaches_in w.heap (program_at w) r.0 (Ref o) refl r.2))

-- ---- lists of trees

pub built : (w : World) (ts : List Top) → AreLawfulTrees w ts → TopsAreBuilt ts
built w [] h = tt
built w (t ∷ ts) h = ((All-head (IsLawfulTree w) t ts h).built, built w ts (All-tail (IsLawfulTree w) t ts h))

module _ (w : World) (q : Program) (heap_is : q.heap ≡ (program_at w).heap) (symbols_are : q.symbols ≡ (program_at w).symbols) where
  pub lawful : (ts : List Top) → AreLawfulTrees w ts → TopsAreLawful q ts
  lawful [] h = tt
  lawful (t ∷ ts) h = (
    lawful_between (program_at w) q (λ o e. ap (λ (l : List _). slice_get l (index_of o)) heap_is) (omega (arith, ap length symbols_are))
        w.table (sym (length-map w.table.symbols symbol_of)) t (All-head (IsLawfulTree w) t ts h).lawful,
    lawful ts (All-tail (IsLawfulTree w) t ts h),
  )

-- ---- those of the prelude that are held

module _ {X : Type 0} (R : X → X → Type 0) where
  first_apart : (x : X) (xs : List X) → AllPairs R (x ∷ xs) → All (R x) xs
  first_apart x xs h = λ k d l. h 0 (suc k) d (omega arith) (omega (arith, l))

  others_apart : (x : X) (xs : List X) → AllPairs R (x ∷ xs) → AllPairs R xs
  others_apart x xs h = λ i j d l m. h (suc i) (suc j) d (omega (arith, l)) (omega (arith, m))

  none_apart : AllPairs R []
  none_apart = λ i j d l m. absurd (omega (arith, m))

module _ {P : PreludeFunction → Type 0} where
  pub chosen_all : (Q : PreludeFunction → Type 0) (fs ps : List PreludeFunction) → Chosen P fs ps → All Q fs → All Q ps
  chosen_all Q _ _ none h = All-nil Q
  chosen_all Q _ _ (taken f fs ps y c) h = All-cons Q f ps (All-head Q f fs h) (chosen_all Q fs ps c (All-tail Q f fs h))
  chosen_all Q _ _ (passed f fs ps n c) h = chosen_all Q fs ps c (All-tail Q f fs h)

  pub chosen_pairs : (R : PreludeFunction → PreludeFunction → Type 0) (fs ps : List PreludeFunction) → Chosen P fs ps → AllPairs R fs → AllPairs R ps
  chosen_pairs R _ _ none h = none_apart R
  chosen_pairs R _ _ (taken f fs ps y c) h =
      AllPairs-cons R f ps (chosen_all (R f) fs ps c (first_apart R f fs h)) (chosen_pairs R fs ps c (others_apart R f fs h))
  chosen_pairs R _ _ (passed f fs ps n c) h = chosen_pairs R fs ps c (others_apart R f fs h)

name_given : (f : PreludeFunction) → DefinesName f → function_given (top_of f.form).core ≡ f.name ∷ []
name_given f d = ap function_given d.is.is ∙ ap (λ (s : SymId). s ∷ []) (sym d.name)

names_are : (fs : List PreludeFunction) → All DefinesName fs → names_given (map (λ (f : PreludeFunction). top_of f.form) fs) ≡ names_from fs
names_are [] h = refl
names_are (f ∷ fs) h =
    ap (λ (l : List SymId). l ++ names_given (map (λ (g : PreludeFunction). top_of g.form) fs)) (name_given f (All-head DefinesName f fs h))
    ∙ ap (λ (l : List SymId). f.name ∷ l) (names_are fs (All-tail DefinesName f fs h))

define : (fs : List PreludeFunction) → All DefinesName fs → AreDefinitions (map (λ (f : PreludeFunction). top_of f.form) fs)
define [] h = tt
define (f ∷ fs) h = ((All-head DefinesName f fs h).is, define fs (All-tail DefinesName f fs h))

apart : (f : PreludeFunction) (fs : List PreludeFunction) → All (λ (g : PreludeFunction). f.name ≢ g.name) fs → All (λ s. f.name ≢ s) (names_from fs)
apart f [] h = All-nil (λ (s : SymId). f.name ≢ s)
apart f (g ∷ fs) h =
    let Q : PreludeFunction → Type 0 = λ k. f.name ≢ k.name in
    All-cons (λ (s : SymId). f.name ≢ s) g.name (names_from fs) (All-head Q g fs h) (apart f fs (All-tail Q g fs h))

distinct : (fs : List PreludeFunction) → AllPairs (λ (f g : PreludeFunction). f.name ≢ g.name) fs → AllPairs (λ (s t : SymId). s ≢ t) (names_from fs)
distinct [] h = none_apart (λ (s t : SymId). s ≢ t)
distinct (f ∷ fs) h =
    let R : PreludeFunction → PreludeFunction → Type 0 = λ g k. g.name ≢ k.name in
    AllPairs-cons (λ (s t : SymId). s ≢ t) f.name (names_from fs) (apart f fs (first_apart R f fs h)) (distinct fs (others_apart R f fs h))

trees_of_functions : (w : World) (fs : List PreludeFunction) → All (λ f. IsLawfulTree w (top_of f.form)) fs → AreLawfulTrees w (map (λ (f : PreludeFunction). top_of f.form) fs)
trees_of_functions w [] h = All-nil (IsLawfulTree w)
trees_of_functions w (f ∷ fs) h =
    let Q : PreludeFunction → Type 0 = λ g. IsLawfulTree w (top_of g.form) in
    All-cons (IsLawfulTree w) (top_of f.form) (map (λ (g : PreludeFunction). top_of g.form) fs) (All-head Q f fs h) (trees_of_functions w fs (All-tail Q f fs h))

tops_of_forms : (fs : List PreludeFunction) → tops_of (map (λ (f : PreludeFunction). f.form) fs) ≡ map (λ (f : PreludeFunction). top_of f.form) fs
tops_of_forms [] = refl
tops_of_forms (f ∷ fs) = ap (λ (l : List Top). top_of f.form ∷ l) (tops_of_forms fs)

begins : (w : World) → IsSoundWorld w → BeginWithNames (program_at w).symbols
begins w h = (map symbol_of h.begins.0, ap (map symbol_of) h.begins.1 ∙ map-append symbol_of table.base_symbols h.begins.0)

-- the program of lawful forms and of some of the prelude's functions
pub is_lawful : {P : PreludeFunction → Type 0} (w : World) (fs ps : List PreludeFunction) (held forms : List TopForm) → Chosen P fs ps →
    held ≡ map (λ (f : PreludeFunction). f.form) ps → AreFunctions w fs → AreLawfulTrees w (tops_of forms) → IsSoundWorld w →
    IsLawful (meant (parts_of held forms w.heap w.table.symbols))
is_lawful w fs ps held forms c is functions trees sound =
    let tops_are : tops_of held ≡ map (λ (f : PreludeFunction). top_of f.form) ps = ap tops_of is ∙ tops_of_forms ps in
    let mine : AreLawfulTrees w (tops_of held) = subst (AreLawfulTrees w) (sym tops_are) (trees_of_functions w ps (chosen_all (λ (f : PreludeFunction). IsLawfulTree w (top_of f.form)) fs ps c functions.lawful)) in
    let defined : All DefinesName ps = chosen_all DefinesName fs ps c functions.define in
    record {
      prelude_built = built w (tops_of held) mine;
      forms_built = built w (tops_of forms) trees;
      prelude_lawful = lawful w (meant (parts_of held forms w.heap w.table.symbols)) refl refl (tops_of held) mine;
      forms_lawful = lawful w (meant (parts_of held forms w.heap w.table.symbols)) refl refl (tops_of forms) trees;
      prelude_defines = subst AreDefinitions (sym tops_are) (define ps defined);
      prelude_once = subst (AllPairs (λ (s t : SymId). s ≢ t)) (sym (ap names_given tops_are ∙ names_are ps defined)) (distinct ps (chosen_pairs (λ (f g : PreludeFunction). f.name ≢ g.name) fs ps c functions.once));
      begins = begins w sound;
    }
