-- The prelude as it is read and expanded.
use Rattle.std.proofs.Common.{◌≡◌, ◌∙◌, ap, sym, subst, ℕ, ◌<◌, ◌≤◌, ◌+◌, List, [], ◌∷◌, ◌++◌, drop, length, get_or, inl, inr}
use Rattle.std.specs.List.{All}
use Rattle.std.proofs.lemmas.List.{append_assoc, get_or_default, map-append}
use Rattle.lisp_base.specs.declared.values.Place.{Place}
use Rattle.lisp_base.specs.Tables.{Table, Symbol, Object, BeginsWithNames, base_symbols}
use Rattle.lisp_reader.specs.declared.forms.TopRead.{TopRead}
use Rattle.lisp_reader.specs.Building.{Stock, stock}
use Rattle.lisp_reader.specs.Reading.{Refusal}
use Rattle.lisp_reader.specs.Answers.{Reads, IsRefusedAt}
use Rattle.prelude.specs.Text.{prelude_text}
use Rattle.core_form.specs.Reading.{core_of}
use Rattle.closed_copies.specs.Copies.{closed_copies}
use Rattle.program_size.specs.declared.prelude_functions.PreludeFunction.{PreludeFunction}
use Rattle.expansion.specs.declared.kind.ExpandKind.{ExpandKind}
use Rattle.expansion.specs.Steps.{World, Answer, gives, refused}
use Rattle.form_expander.specs.declared.fault.Fault.{Fault}
use Rattle.form_expander.specs.declared.fault.Fault.TheVariants as fault
use Rattle.form_expander.specs.declared.world.World.{World as World'}
use Rattle.form_expander.specs.Outcomes.{Refuses}
use Rattle.form_expander.specs.Reading.{world_of}
use Rattle.file_expansion.specs.Files.{Helper, helper_of, helpers, first_world, is_full, is_unread}
use Rattle.file_expansion.specs.Laws.{IsThere, IsSoundWorld, Grows, TextsAreThere}
use Rattle.macroexpand.specs.Going.{helper_from, helpers_from, names_from}
use Rattle.macroexpand.specs.Preludes.{IsSoundHelper, IsSoundPrelude, stock_of, IsFirst, ReadsPrelude, MakesPrelude, RefusesReading, RefusesPrelude, refused_prelude}
use Rattle.macroexpand.proofs.Growth.{grows_on}
use Rattle.macroexpand.proofs.Helpers.{helpers_on, helpers_refused, helpers_made}
use Rattle.macroexpand.proofs.Filed.{first_sound, prelude_more}

-- a world with other symbols and objects
abbrev pub with_stock : World' → Table → List Object → World'
with_stock w symbols objects = record w { symbols = symbols; heap = objects }

first_still : (w : World') (symbols : Table) (objects : List Object) → IsFirst w → IsFirst (with_stock w symbols objects)
first_still w symbols objects is = ap (λ (v : World). record v { table = symbols; heap = objects }) is

begins_still : (old new more : List Symbol) → BeginsWithNames old → new ≡ old ++ more → BeginsWithNames new
begins_still old new more h e =
    (h.0 ++ more, e ∙ (ap (λ (l : List Symbol). l ++ more) h.1 ∙ append_assoc base_symbols h.0 more))

pub prelude_read : TextsAreThere → (before : World') (symbols : Table) (objects : List Object) (forms : List TopRead) → IsFirst before → IsSoundWorld (world_of before) →
    Reads prelude_text (stock_of before) (forms, stock symbols objects) → Grows (world_of before) (world_of (with_stock before symbols objects)) →
    ReadsPrelude before (with_stock before symbols objects) forms
prelude_read texts before symbols objects forms is sound reads grown =
    let first : world_of (with_stock before symbols objects) ≡ first_world (stock symbols objects) = first_still before symbols objects is in
    record {
      reads = reads;
      first = first;
      grows = grown;
      world = subst IsSoundWorld (sym first) (first_sound (stock symbols objects) (begins_still before.symbols.symbols symbols.symbols grown.symbols.0 sound.begins grown.symbols.1));
      there = subst (λ (w : World). All (λ (f : TopRead). IsThere w f.form) forms) (sym first) (texts prelude_text (stock_of before) (forms, stock symbols objects) reads sound.begins);
    }

pub reading_refused : (before : Stock) (first : Place) (r : Refusal) (e : Fault) → IsRefusedAt prelude_text before r → e ≡ refused_prelude (is_unread r.kind) first →
    RefusesReading before first e
reading_refused before first r (fault.Refused k place) h is = record { refusal = r; is_refused = h; is = sym is }
reading_refused before first r fault.Memory h is = tt

pub reading_fails : (before : Stock) (first : Place) (e : Fault) → RefusesReading before first e → RefusesPrelude before first e
reading_fails before first (fault.Refused k place) h = inl h
reading_fails before first fault.Memory h = tt

module _ (before mid : World') (forms : List TopRead) (read : ReadsPrelude before mid forms) where
  of_first : {A : Type 0} (f : World → Answer A) (a : Answer A) → f (world_of mid) ≡ a → f (first_world (stock_of mid)) ≡ a
  of_first f a e = ap f (sym read.first) ∙ e

  pub prelude_made : (after : World') (fs : List PreludeFunction) → helpers [] forms (world_of mid) ≡ gives (helpers_from fs) (world_of after) →
      IsSoundPrelude (world_of mid) (world_of after) fs → MakesPrelude before after fs
  prelude_made after fs e h = record {
    read = (forms, stock_of mid);
    reads = read.reads;
    helpers = of_first (helpers [] forms) (gives (helpers_from fs) (world_of after)) e;
    sound = record { grows = grows_on (world_of before) (world_of mid) (world_of after) read.grows h.grows; world = h.world; same = h.same; functions = h.functions };
  }

  pub prelude_refuses : (first : Place) (k : ExpandKind) (place : Place) (e : Fault) → helpers [] forms (world_of mid) ≡ refused k place →
      e ≡ refused_prelude (is_full k) first → RefusesPrelude (stock_of before) first e
  prelude_refuses first k place (fault.Refused j at) is same = inr (record {
    read = (forms, stock_of mid);
    reads = read.reads;
    kind = k;
    at = place;
    is_refused = of_first (helpers [] forms) (refused k place) is;
    is = sym same;
  })
  prelude_refuses first k place fault.Memory is same = tt

-- ---- one function after another

module _ (forms : List TopRead) (i : ℕ) (start w : World) (fs : List PreludeFunction) (so_far : helpers (helpers_from fs) (drop i forms) w ≡ helpers [] forms start) where
  element : (d : TopRead) → i < length forms → get_or forms i d ≡ get_or forms i (get_or forms i d)
  element d inside = get_or_default forms i d (get_or forms i d) inside

  pub helpers_next : (d : TopRead) (f : PreludeFunction) (had new : List PreludeFunction) (u : World) → i < length forms → had ≡ fs → new ≡ fs ++ f ∷ [] →
      helper_of (helpers_from had) (get_or forms i d).form w ≡ gives (helper_from f) u → helpers (helpers_from new) (drop (i + 1) forms) u ≡ helpers [] forms start
  helpers_next d f had new u inside same added is =
      let r : TopRead = get_or forms i d in
      let e : helper_of (helpers_from fs) r.form w ≡ gives (helper_from f) u = subst (λ (l : List PreludeFunction). helper_of (helpers_from l) r.form w ≡ gives (helper_from f) u) same is in
      ap (λ (l : List PreludeFunction). helpers (helpers_from l) (drop (i + 1) forms) u) added
      ∙ (ap (λ (l : List Helper). helpers l (drop (i + 1) forms) u) (map-append helper_from fs (f ∷ []))
      ∙ helpers_on forms i w (helpers [] forms start) (helpers_from fs) so_far r (helper_from f) u inside (element d inside) e)

  pub helpers_fail : (d : TopRead) (had : List PreludeFunction) (e : Fault) → i < length forms → had ≡ fs → Refuses (helper_of (helpers_from had) (get_or forms i d).form w) e →
      Refuses (helpers [] forms start) e
  helpers_fail d had e inside same h =
      let r : TopRead = get_or forms i d in
      helpers_refused forms i w (helpers [] forms start) (helpers_from fs) so_far r e inside (element d inside)
      (subst (λ (l : List PreludeFunction). Refuses (helper_of (helpers_from l) r.form w) e) same h)

  pub helpers_all : length forms ≤ i → helpers [] forms start ≡ gives (helpers_from fs) w
  helpers_all past = helpers_made forms i w (helpers [] forms start) (helpers_from fs) so_far past

pub prelude_next : (start w u : World) (fs had new : List PreludeFunction) (f : PreludeFunction) → had ≡ fs → new ≡ fs ++ f ∷ [] → IsSoundPrelude start w fs →
    f.copies ≡ closed_copies (core_of f.form.core) → IsSoundHelper (names_from had) w u f → IsSoundPrelude start u new
prelude_next start w u fs had new f same added h is k =
    subst (IsSoundPrelude start u) (sym added) (prelude_more start w u fs f h is (subst (λ (l : List PreludeFunction). IsSoundHelper (names_from l) w u f) same k))
