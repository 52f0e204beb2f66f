-- A whole file: the prelude first, then its forms.
use Rattle.std.proofs.Common.{◌≡◌, ◌≢◌, ◌∙◌, ap, sym, subst, refl, ◌<◌, Bool, true, false, List, [], ◌∷◌, ◌++◌, length, map, arith, inl, inr}
use Rattle.std.specs.List.{All, AllPairs}
use Rattle.std.proofs.lemmas.List.{append-nil}
use Rattle.std.proofs.lemmas.List.Elements.{All-weaker, All-nil}
use Rattle.lisp_base.specs.declared.values.Place.{Place}
use Rattle.lisp_base.specs.declared.values.SymId.{SymId}
use Rattle.lisp_base.specs.declared.values.Val.TheVariants.{Sym}
use Rattle.lisp_base.specs.Sort.{number_of}
use Rattle.lisp_base.specs.Tables.{Object, Table, BeginsWithNames, restarted}
use Rattle.lisp_reader.specs.declared.forms.TopRead.{TopRead}
use Rattle.lisp_reader.specs.Building.{Stock}
use Rattle.core_form.specs.Tree.{Top}
use Rattle.core_form.specs.Reading.{core_of, top_of, tops_of}
use Rattle.core_form.specs.Lawful.{parts_of, meant, IsLawful}
use Rattle.core_form.specs.declared.tree.TopForm.{TopForm}
use Rattle.closed_copies.specs.Copies.{closed_copies}
use Rattle.program_size.specs.declared.prelude_functions.PreludeFunction.{PreludeFunction}
use Rattle.program_size.specs.declared.sizes.Sizes.{Sizes}
use Rattle.program_size.specs.Mentions.{Function, Mentions}
use Rattle.program_size.specs.Sizes.{IsTooLarge}
use Rattle.program_size.specs.Counting.{Counts, PreludeIsThere}
use Rattle.declarations.specs.Declarations.{Typed}
use Rattle.expansion.specs.declared.kind.ExpandKind.{ExpandKind}
use Rattle.expansion.specs.Steps.{World, gives, refused}
use Rattle.form_expander.specs.declared.fault.Fault.{Fault}
use Rattle.form_expander.specs.declared.fault.Fault.TheVariants as fault
use Rattle.form_expander.specs.declared.world.World.{World as World'}
use Rattle.form_expander.specs.Reading.{world_of}
use Rattle.macroexpand.specs.declared.tops.Growing.{Growing}
use Rattle.file_expansion.specs.Tops.{measured, Expands}
use Rattle.file_expansion.specs.Files.{Answers, unread, unexpanded, expanded, Helper, first_world, after_prelude, file_form, first_place, prelude_refused, is_full, is_unread, IsProgram}
use Rattle.file_expansion.specs.Laws.{IsThere, IsSoundWorld, IsSoundTyped, IsLawfulTree, Grows}
use Rattle.macroexpand.specs.Going.{helpers_from, names_from, prelude_of, trees_of, DefinesName, AreFunctions, AreLawfulTrees, IsGoing, Comes, RefusesAll, HoldsMentioned, HeldForms}
use Rattle.macroexpand.specs.Preludes.{IsSoundHelper, IsSoundPrelude, stock_of, MakesPrelude, RefusesPrelude, refused_prelude}
use Rattle.macroexpand.specs.Given.{AreGiven, Answered, RefusesFile}
use Rattle.macroexpand.proofs.Growth.{grows_same, grows_on, there_stays, type_stays}
use Rattle.macroexpand.proofs.Helpers.{measured_on, functions_on}
use Rattle.macroexpand.proofs.Going.{functions_stay, prelude_there}
use Rattle.macroexpand.proofs.Holding.{chosen_helpers, forms_held}
use Rattle.macroexpand.proofs.Leading.{ends}
use Rattle.macroexpand.proofs.Sized.{none_large}
use Rattle.macroexpand.proofs.Whole.{is_lawful}

-- ---- the prelude

none_twice : AllPairs (λ (f g : PreludeFunction). f.name ≢ g.name) []
none_twice = λ i j d l m. absurd (omega (arith, m))

pub prelude_begins : (w : World) → IsSoundWorld w → IsSoundPrelude w w []
prelude_begins w sound = record {
  grows = grows_same w;
  world = sound;
  same = refl;
  functions = record { lawful = All-nil (λ (f : PreludeFunction). IsLawfulTree w (top_of f.form)); define = All-nil DefinesName; once = none_twice };
}

pub prelude_more : (w u v : World) (fs : List PreludeFunction) (f : PreludeFunction) → IsSoundPrelude w u fs → f.copies ≡ closed_copies (core_of f.form.core) →
    IsSoundHelper (names_from fs) u v f → IsSoundPrelude w v (fs ++ f ∷ [])
prelude_more w u v fs f h is k = record {
  grows = grows_on w u v h.grows k.grows;
  world = k.world;
  same = measured_on fs f h.same is;
  functions = functions_on v fs f (functions_stay u v k.grows fs h.functions) k.tree k.defines k.new;
}

pub forms_there : (w u : World) (forms : List TopRead) → Grows w u → All (λ f. IsThere w f.form) forms → All (λ f. IsThere u f.form) forms
forms_there w u forms grown h = All-weaker (λ (f : TopRead). IsThere w f.form) (λ (f : TopRead). IsThere u f.form) (λ f k. there_stays w u grown f.form k) forms h

pub first_sound : (s : Stock) → BeginsWithNames s.symbols.symbols → IsSoundWorld (first_world s)
first_sound s begins = record {
  begins = begins;
  specials = All-nil (λ (t : SymId). number_of t < length s.symbols.symbols);
  declaimed = All-nil (IsSoundTyped (first_world s));
}

-- ---- after the prelude

abbrev pub with_symbols : World' → Table → World'
with_symbols w symbols = record w { symbols = symbols }

pub restarted_world : (w : World') (symbols : Table) → symbols ≡ restarted w.symbols → world_of (with_symbols w symbols) ≡ after_prelude (world_of w)
restarted_world w symbols is = ap (λ (t : Table). world_of (with_symbols w t)) is

grows_after : (w : World) → Grows w (after_prelude w)
grows_after w = record { symbols = ([], sym (append-nil w.table.symbols)); objects = ([], sym (append-nil w.heap)) }

typed_after : (w : World) (d : Typed) → IsSoundTyped w d → IsSoundTyped (after_prelude w) d
typed_after w d h = (h.0, type_stays w.table (restarted w.table) (omega arith) d.spec h.1)

pub sound_after : (w : World) → IsSoundWorld w → IsSoundWorld (after_prelude w)
sound_after w h = record {
  begins = h.begins;
  specials = h.specials;
  declaimed = All-weaker (IsSoundTyped w) (IsSoundTyped (after_prelude w)) (typed_after w) w.declaimed h.declaimed;
}

-- the forms of the file are there still
pub given_after : (before : Stock) (w : World) (forms : List TopRead) → Grows (first_world before) w → AreGiven forms before → All (λ f. IsThere (after_prelude w) f.form) forms
given_after before w forms grown h =
    forms_there w (after_prelude w) forms (grows_after w) (forms_there (first_world before) w forms grown h)

abbrev pub CountsNone : Sizes → Type 0
CountsNone s = (prelude : List Function) (heap : List Object) → PreludeIsThere heap prelude → Counts s prelude heap []

-- a program without forms
pub going_begins : (g : Growing) (w v : World) → CountsNone g.sizes → trees_of g ≡ [] → IsSoundPrelude w v g.prelude.items → IsGoing g (after_prelude v)
going_begins g w v counts none h =
    let functions : AreFunctions (after_prelude v) g.prelude.items = functions_stay v (after_prelude v) (grows_after v) g.prelude.items h.functions in
    record {
      same = h.same;
      counts = subst (λ (ts : List Top). Counts g.sizes (prelude_of g) v.heap (map measured ts)) (sym none) (counts (prelude_of g) v.heap (prelude_there (after_prelude v) g.prelude.items functions));
      sound = sound_after v h.world;
      functions = functions;
      forms = subst (AreLawfulTrees (after_prelude v)) (sym none) (All-nil (IsLawfulTree (after_prelude v)));
      small = subst (λ (ts : List Top). IsTooLarge v.heap (prelude_of g) (map measured ts) → ⊥) (sym none) (none_large v.heap (prelude_of g));
    }

-- ---- answers

module _ (forms : List TopRead) (before mid : World') (first : Growing) (made : MakesPrelude before mid first.prelude.items) (none : trees_of first ≡ []) where
  abbrev w : World
  w = after_prelude (world_of mid)

  pub answered : (g : Growing) (u : World) → g.prelude ≡ first.prelude → Comes first w (map file_form forms) g u [] → Answered forms (stock_of before) g u
  answered g u same comes =
      let all : Expands (prelude_of first) w (trees_of first) (map file_form forms) (gives (trees_of g) u) =
      ends (prelude_of first) w u (trees_of first) (trees_of g) (map file_form forms) comes in
      let fresh : Expands (prelude_of first) w [] (map file_form forms) (gives (trees_of g) u) =
      subst (λ (ts : List Top). Expands (prelude_of first) w ts (map file_form forms) (gives (trees_of g) u)) none all in
      subst (λ (fs : _). Answers forms (stock_of before) (gives (helpers_from fs.items, trees_of g) u)) (sym same)
      (expanded made.read (helpers_from first.prelude.items) (world_of mid) (gives (trees_of g) u) made.reads made.helpers fresh)

  pub file_refused : (e : Fault) → RefusesAll first w (map file_form forms) e → RefusesFile forms (stock_of before) e
  file_refused (fault.Refused k place) h =
      let all : Expands (prelude_of first) w (trees_of first) (map file_form forms) (refused k place) =
      subst (λ (l : List _). Expands (prelude_of first) w (trees_of first) l (refused k place)) (append-nil (map file_form forms)) (h []) in
      let fresh : Expands (prelude_of first) w [] (map file_form forms) (refused k place) =
      subst (λ (ts : List Top). Expands (prelude_of first) w ts (map file_form forms) (refused k place)) none all in
      expanded made.read (helpers_from first.prelude.items) (world_of mid) (refused k place) made.reads made.helpers fresh
  file_refused fault.Memory h = tt

same_refusal : (b : Bool) (heap : List Object) (forms : List TopRead) (k : ExpandKind) (place : Place) → refused_prelude b (first_place heap forms) ≡ fault.Refused k place →
    prelude_refused heap forms b ≡ refused k place
same_refusal true heap forms k place e = cc
same_refusal false heap forms k place e = cc

pub prelude_fails : (forms : List TopRead) (before : Stock) (e : Fault) → RefusesPrelude before (first_place before.objects forms) e → RefusesFile forms before e
prelude_fails forms before (fault.Refused k place) (inl h) =
    subst (Answers forms before) (same_refusal (is_unread h.refusal.kind) before.objects forms k place h.is) (unread h.refusal h.is_refused)
prelude_fails forms before (fault.Refused k place) (inr h) =
    subst (Answers forms before) (same_refusal (is_full h.kind) before.objects forms k place h.is) (unexpanded h.read h.kind h.at h.reads h.is_refused)
prelude_fails forms before fault.Memory h = tt

-- ---- the program

pub program_lawful : (g : Growing) (w : World) (held : List TopForm) → IsGoing g w → HoldsMentioned g.sizes g.prelude.items held →
    IsLawful (meant (parts_of held g.forms.items w.heap w.table.symbols))
program_lawful g w held going holds =
    let h : HeldForms w.heap (prelude_of g) (map measured (trees_of g)) g.prelude.items held = holds w.heap (prelude_of g) (map measured (trees_of g)) going.counts in
    is_lawful w g.prelude.items h.functions held g.forms.items h.chosen h.are going.functions going.forms going.sound

pub program_is : (forms : List TopRead) (before : Stock) (g : Growing) (w : World) (held : List TopForm) → Answered forms before g w → IsGoing g w →
    HoldsMentioned g.sizes g.prelude.items held → IsProgram forms before (parts_of held g.forms.items w.heap w.table.symbols)
program_is forms before g w held answers going holds =
    let h : HeldForms w.heap (prelude_of g) (map measured (trees_of g)) g.prelude.items held = holds w.heap (prelude_of g) (map measured (trees_of g)) going.counts in
    record {
      prelude = helpers_from g.prelude.items;
      held = helpers_from h.functions;
      trees = trees_of g;
      world = w;
      answers = answers;
      mentioned = chosen_helpers (λ (k : Helper). Mentions w.heap (prelude_of g) (map measured (trees_of g)) (Sym k.name)) g.prelude.items h.functions h.chosen;
      prelude_is = ap tops_of h.are ∙ forms_held h.functions;
      forms_are = refl;
      heap_is = refl;
      symbols_are = refl;
    }
