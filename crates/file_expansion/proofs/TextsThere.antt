-- What is read is there: all that it reaches is a datum, at a place of the file or none.
use Rattle.std.proofs.Common.{◌≡◌, refl, sym, ap, subst, ◌∙◌, ℕ, zero, suc, ◌+◌, ◌<◌, ◌≤◌, List, [], ◌∷◌, ◌++◌, length, length-append, Option, Some, None, arith, append-nil}
use Rattle.std.specs.Prelude.{slice_get}
use Rattle.std.specs.Char.{IsScalar}
use Rattle.std.specs.List.{All, Contains}
use Rattle.std.specs.Option.{option_map}
use Rattle.std.proofs.lemmas.List.{length-map}
use Rattle.std.proofs.lemmas.List.Elements.{All-nil, All-cons, All-contains, All-weaker}
use Rattle.std.proofs.lemmas.Option.{slice_get-map}
use Rattle.lisp_base.specs.declared.values.Place.TheVariants.{File, Prelude}
use Rattle.lisp_base.specs.declared.values.ObjId.{ObjId}
use Rattle.lisp_base.specs.declared.values.Val.{Val}
use Rattle.lisp_base.specs.declared.values.Val.TheVariants.{Int, Char, Sym, Ref}
use Rattle.lisp_base.specs.Sort.{index_of}
use Rattle.lisp_base.specs.BaseNames.{base_names}
use Rattle.lisp_base.specs.Shown.{most_elements}
use Rattle.lisp_base.specs.Tables.{Symbol, Object, Cons, Vector, Str, Fun, Cell, base_symbols}
use Rattle.lisp_forms.specs.Conses.{cons_place, place_at}
use Rattle.core_form.specs.Primitives.{greatest_length}
use Rattle.core_form.specs.Lawful.{object_of, symbol_of, IsDatum, Reaches, itself, within, values_in, values_within}
use Rattle.lisp_reader.specs.declared.forms.TopRead.{TopRead}
use Rattle.lisp_reader.specs.Building.{Stock}
use Rattle.lisp_reader.specs.Answers.{greatest_length as most_bytes}
use Rattle.file_expansion.specs.Files.{first_world}
use Rattle.file_expansion.specs.Laws.{program_at, AreSymbols, symbols_here, IsThere, TextsAreThere}
use Rattle.file_expansion.proofs.TextTokens.{Every, FinePlaced, file_fine}
use Rattle.file_expansion.proofs.TextValues.{IsBuilt, Good, GoodObject, texts_good}

all_of : {A : Type 0} (P : A → Type 0) (xs : List A) → Every P xs → All P xs
all_of P [] h = All-nil P
all_of P (x ∷ xs) h = All-cons P x xs h.0 (all_of P xs h.1)

-- ---- an object of a list behind another

record Found {A : Type 0} (P : A → Type 0) (o : Option A) : Type 0 where
  thing : A
  is : o ≡ Some thing
  good : P thing

found_at : {A : Type 0} (P : A → Type 0) (xs : List A) (k : ℕ) → k < length xs → Every P xs → Found P (slice_get xs k)
found_at P [] k lt h = absurd (omega (arith, lt))
found_at P (x ∷ xs) zero lt h = record { thing = x; is = refl; good = h.0 }
found_at P (x ∷ xs) (suc k) lt h = found_at P xs k (omega (arith, lt)) h.1

found_behind : {A : Type 0} (P : A → Type 0) (old new : List A) (k : ℕ) → length old ≤ k → k < length old + length new → Every P new → Found P (slice_get (old ++ new) k)
found_behind P [] new k le lt h = found_at P new k (omega (arith, lt)) h
found_behind P (x ∷ old) new zero le lt h = absurd (omega (arith, le))
found_behind P (x ∷ old) new (suc k) le lt h = found_behind P old new k (omega (arith, le)) (omega (arith, lt)) h

-- ---- good values are there

module _ (most : ℕ) (fits : most ≤ greatest_length) (old : List Object) (s : Stock) (built : IsBuilt most old s) where
  object_found : (o : ObjId) → Good most old s (Ref o) → Found (GoodObject most old s) (slice_get s.objects (index_of o))
  object_found o h =
      let count = ap length built.is ∙ length-append old built.new in
      subst (λ (xs : List Object). Found (GoodObject most old s) (slice_get xs (index_of o))) (sym built.is)
      (found_behind (GoodObject most old s) old built.new (index_of o) h.0 (omega (arith, count, h.1)) built.good)

  meant_there : (o : ObjId) (x : Object) → slice_get s.objects (index_of o) ≡ Some x → slice_get (program_at (first_world s)).heap (index_of o) ≡ Some (object_of x)
  meant_there o x e = slice_get-map object_of s.objects (index_of o) ∙ ap (option_map object_of) e

  object_datum : (o : ObjId) (x : Object) → slice_get (program_at (first_world s)).heap (index_of o) ≡ Some (object_of x) → GoodObject most old s x → IsDatum (program_at (first_world s)) (Ref o)
  object_datum o (Cons car cdr place) e h = rw e tt
  object_datum o (Vector items) e h = rw e (omega (arith, h.1, fits))
  object_datum o (Str letters) e h = rw e (all_of IsScalar letters h.0, omega (arith, h.1, fits))
  object_datum o (Fun lambda cells) e h = absurd h
  object_datum o (Cell v) e h = absurd h

  datum : (v : Val) → Good most old s v → IsDatum (program_at (first_world s)) v
  datum (Int z) h = h
  datum (Char c) h = h
  datum (Sym x) h = let count = length-map s.symbols.symbols symbol_of in omega (arith, count, h)
  datum (Ref o) h = let f = object_found o h in object_datum o f.thing (meant_there o f.thing f.is) f.good

  parts_good : (x : Object) → GoodObject most old s x → All (Good most old s) (values_within (Some (object_of x)))
  parts_good (Cons car cdr place) h = all_of (Good most old s) (car ∷ cdr ∷ []) (h.0, (h.1, tt))
  parts_good (Vector items) h = all_of (Good most old s) items h.0
  parts_good (Str letters) h = All-nil _
  parts_good (Fun lambda cells) h = absurd h
  parts_good (Cell v) h = absurd h

  inner_good : (v w : Val) → Good most old s v → Contains (values_in (program_at (first_world s)) v) w → Good most old s w
  inner_good (Int z) w h c = absurd (omega (arith, c.1))
  inner_good (Char x) w h c = absurd (omega (arith, c.1))
  inner_good (Sym x) w h c = absurd (omega (arith, c.1))
  inner_good (Ref o) w h c =
      let f = object_found o h in
      All-contains (Good most old s) (values_within (Some (object_of f.thing))) w (parts_good f.thing f.good)
      (subst (λ (xs : List Val). Contains xs w) (ap values_within (meant_there o f.thing f.is)) c)

  reached_good : (v u : Val) → Good most old s v → Reaches (program_at (first_world s)) v u → Good most old s u
  reached_good v _ h itself = h
  reached_good v _ h (within u w r c) = inner_good u w (reached_good v u h r) c

  object_place : (x : Object) → GoodObject most old s x → AreSymbols (first_world s) (symbols_here (cons_place (Some x)))
  object_place (Cons car cdr None) h = All-nil _
  object_place (Cons car cdr (Some (File offset tail))) h = All-nil _
  object_place (Cons car cdr (Some (Prelude name))) h = absurd h.2
  object_place (Vector items) h = All-nil _
  object_place (Str letters) h = All-nil _
  object_place (Fun lambda cells) h = absurd h
  object_place (Cell v) h = absurd h

  place : (v : Val) → Good most old s v → AreSymbols (first_world s) (symbols_here (place_at s.objects v))
  place (Int z) h = All-nil _
  place (Char c) h = All-nil _
  place (Sym x) h = All-nil _
  place (Ref o) h =
      let f = object_found o h in
      subst (λ (x : Option Object). AreSymbols (first_world s) (symbols_here (cons_place x))) (sym f.is) (object_place f.thing f.good)

  good_there : (v : Val) → Good most old s v → IsThere (first_world s) v
  good_there v h = record {
    datum = λ u r. datum u (reached_good v u h r);
    places = λ u r. place u (reached_good v u h r);
  }

  forms_there : (fs : List TopRead) → Every (λ f. Good most old s f.form) fs → All (λ f. IsThere (first_world s) f.form) fs
  forms_there fs h =
      All-weaker (λ (f : TopRead). Good most old s f.form) (λ (f : TopRead). IsThere (first_world s) f.form) (λ f g. good_there f.form g) fs
      (all_of (λ (f : TopRead). Good most old s f.form) fs h)

-- ---- the law

names_there : (others : List Symbol) → 7 ≤ length (base_symbols ++ others)
unfolding base_names
names_there others = omega arith

bytes_fit : most_bytes ≤ greatest_length
unfolding most_bytes most_elements
bytes_fit = omega arith

pub texts_are_there : TextsAreThere
texts_are_there bytes before read reads begins =
    let g = reads.grammar in
    let tokens = file_fine bytes most_bytes reads.text reads.short in
    let built : IsBuilt most_bytes before.objects before = record {
      names = subst (λ (xs : List Symbol). 7 ≤ length xs) (sym begins.1) (names_there begins.0);
      new = [];
      is = sym (append-nil before.objects);
      good = tt;
    } in
    let good =
    texts_good most_bytes before.objects g.0 before built (subst (Every (FinePlaced most_bytes)) g.2 tokens.fine)
    (let short = tokens.short in let count = ap length g.2 in omega (arith, short, count)) read g.3 in
    forms_there most_bytes bytes_fit before.objects read.1 good.built read.0 good.good
