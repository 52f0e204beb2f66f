-- What is there, sound or lawful in a world is so in one that has grown.
use Rattle.std.proofs.Common.{◌≡◌, ◌∙◌, ap, sym, refl, ℕ, zero, suc, ◌<◌, ◌≤◌, Bool, true, false, List, [], ◌∷◌, ◌++◌, length, Option, Some, None, is_some, arith}
use Rattle.std.specs.Prelude.{slice_get, ◌&&◌}
use Rattle.std.specs.List.{All, Contains, list_all}
use Rattle.std.specs.Option.{option_map}
use Rattle.std.proofs.lemmas.List.{append-nil, append_assoc, length-map, length-append}
use Rattle.std.proofs.lemmas.Bool.Decides.{nat_tests}
use Rattle.std.proofs.lemmas.List.Elements.{All-weaker}
use Rattle.std.proofs.lemmas.Option.{slice_get-map}
use Rattle.lisp_base.specs.declared.values.ObjId.{ObjId}
use Rattle.lisp_base.specs.declared.values.SymId.{SymId}
use Rattle.lisp_base.specs.declared.values.Val.{Val}
use Rattle.lisp_base.specs.declared.values.Val.TheVariants.{Int, Char, Sym, Ref}
use Rattle.lisp_base.specs.Lawful.{IsLawful as IsLawfulType, has_lawful_parts, all_lawful_parts, is_item}
use Rattle.lisp_base.specs.Sort.{index_of, number_of}
use Rattle.lisp_base.specs.Spec.{Spec, Named, Integer, Signed, Unsigned, Mod, Member, Eql, And, Or, Not, Specs, no_spec, spec}
use Rattle.lisp_base.specs.Tables.{Table}
use Rattle.lisp_base.specs.Tables as table
use Rattle.lisp_forms.specs.Conses.{place_at}
use Rattle.core_form.specs.State.{Object, Pair, Vector, Str, Fun, Cell}
use Rattle.core_form.specs.Eval.{Program}
use Rattle.core_form.specs.Tree.{Top}
use Rattle.core_form.specs.Lawful.{object_of, symbol_of, IsDatum, Reaches, itself, within, values_in, TopIsLawful, top_symbols, types_in}
use Rattle.expansion.specs.declared.heads.Target.{Target}
use Rattle.expansion.specs.declared.heads.Target.TheVariants as target
use Rattle.expansion.specs.Scopes.{Scope, Check, of_binding, of_uses, rebound}
use Rattle.expansion.specs.Steps.{World}
use Rattle.file_expansion.specs.Laws.{program_at, IsThere, Grows, AreSymbols, IsLawfulTree, IsSoundTarget, IsSoundVariable, IsSoundCheck, IsTopScope}

-- ---- lists

get_append : {A : Type 0} (xs ys : List A) (k : ℕ) → is_some (slice_get xs k) ≡ true → slice_get (xs ++ ys) k ≡ slice_get xs k
get_append [] ys k e = cc
get_append (x ∷ xs) ys zero e = refl
get_append (x ∷ xs) ys (suc k) e = get_append xs ys k e

mapped_some : {A B : Type 0} (f : A → B) (o : Option A) → is_some (option_map f o) ≡ true → is_some o ≡ true
mapped_some f (Some x) e = refl
mapped_some f None e = cc

both : (a b : Bool) → a ≡ true → b ≡ true → (a && b) ≡ true
both true true h k = refl
both true false h k = k
both false b h k = h

left_of : (a b : Bool) → (a && b) ≡ true → a ≡ true
left_of true b h = refl
left_of false b h = h

right_of : (a b : Bool) → (a && b) ≡ true → b ≡ true
right_of true b h = h
right_of false b h = cc

-- ---- types

module _ (a b : Table) (l : length a.symbols ≤ length b.symbols) where
  item_stays : (v : Val) → is_item a v ≡ true → is_item b v ≡ true
  item_stays (Int z) h = h
  item_stays (Char c) h = h
  item_stays (Sym s) h = grind (arith, nat_tests, h, l)
  item_stays (Ref o) h = h

  items_stay : (vs : List Val) → list_all (is_item a) vs ≡ true → list_all (is_item b) vs ≡ true
  items_stay [] h = refl
  items_stay (v ∷ vs) h = both (is_item b v) (list_all (is_item b) vs) (item_stays v (left_of (is_item a v) (list_all (is_item a) vs) h)) (items_stay vs (right_of (is_item a v) (list_all (is_item a) vs) h))

  mutual
    parts_stay : (t : Spec) → has_lawful_parts a t ≡ true → has_lawful_parts b t ≡ true
    parts_stay (Named name) h = h
    parts_stay (Integer lo hi) h = h
    parts_stay (Signed bits) h = h
    parts_stay (Unsigned bits) h = h
    parts_stay (Mod n) h = h
    parts_stay (Member items) h = items_stay items h
    parts_stay (Eql item) h = item_stays item h
    parts_stay (And ts) h = all_parts_stay ts h
    parts_stay (Or ts) h = all_parts_stay ts h
    parts_stay (Not t) h = parts_stay t h

    all_parts_stay : (ts : Specs) → all_lawful_parts a ts ≡ true → all_lawful_parts b ts ≡ true
    all_parts_stay no_spec h = refl
    all_parts_stay (spec t ts) h =
        both (has_lawful_parts b t) (all_lawful_parts b ts) (parts_stay t (left_of (has_lawful_parts a t) (all_lawful_parts a ts) h))
        (all_parts_stay ts (right_of (has_lawful_parts a t) (all_lawful_parts a ts) h))

  pub type_stays : (t : Spec) → IsLawfulType a t → IsLawfulType b t
  type_stays t h = record { parts = parts_stay t h.parts; size = h.size }

-- ---- programs: one holds the objects and symbols of another, at their places

abbrev Stays : Program → Program → Type 0
Stays p q = (o : ObjId) → is_some (slice_get p.heap (index_of o)) ≡ true → slice_get q.heap (index_of o) ≡ slice_get p.heap (index_of o)

module _ (p q : Program) (stays : Stays p q) (more : length p.symbols ≤ length q.symbols) where
  data_there : (x : Option Object) (o : ObjId) → slice_get p.heap (index_of o) ≡ x → IsDatum p (Ref o) → is_some x ≡ true
  data_there None o e h = absurd (rw e at h)
  data_there (Some x) o e h = refl

  object_there : (o : ObjId) → IsDatum p (Ref o) → is_some (slice_get p.heap (index_of o)) ≡ true
  object_there o h = data_there (slice_get p.heap (index_of o)) o refl h

  object_datum : (x : Option Object) (o : ObjId) → slice_get p.heap (index_of o) ≡ x → slice_get q.heap (index_of o) ≡ x → IsDatum p (Ref o) → IsDatum q (Ref o)
  object_datum None o e f h = absurd (rw e at h)
  object_datum (Some (Pair a d)) o e f h = rw f tt
  object_datum (Some (Vector vs)) o e f h = rw f (rw e at h)
  object_datum (Some (Str cs)) o e f h = rw f (rw e at h)
  object_datum (Some (Fun k closed)) o e f h = absurd (rw e at h)
  object_datum (Some (Cell v)) o e f h = absurd (rw e at h)

  datum_between : (v : Val) → IsDatum p v → IsDatum q v
  datum_between (Int z) h = h
  datum_between (Char c) h = h
  datum_between (Sym s) h = omega (arith, h, more)
  datum_between (Ref o) h = object_datum (slice_get p.heap (index_of o)) o refl (stays o (object_there o h)) h

  values_between : (v x : Val) → IsDatum p v → Contains (values_in q v) x → Contains (values_in p v) x
  values_between (Int z) x h c = c
  values_between (Char c') x h c = c
  values_between (Sym s) x h c = c
  values_between (Ref o) x h c = rw (stays o (object_there o h)) at c

  -- what a value of data reaches in the one it reaches in the other
  reached : (v x : Val) → ((y : Val) → Reaches p v y → IsDatum p y) → Reaches q v x → Reaches p v x
  reached v _ datum itself = itself
  reached v _ datum (within y x r c) =
      let r' : Reaches p v y = reached v y datum r in
      within y x r' (values_between y x (datum y r') c)

  pub lawful_between : (of : Table) → length of.symbols ≡ length p.symbols → (t : Top) → TopIsLawful p t → TopIsLawful q t
  lawful_between of is t h = record {
    symbols = All-weaker (λ (s : SymId). number_of s < length p.symbols) (λ (s : SymId). number_of s < length q.symbols) (λ s l. omega (arith, l, more)) (top_symbols t) h.symbols;
    types = λ table e.
        All-weaker (IsLawfulType of) (IsLawfulType table) (type_stays of table (omega (arith, e, is, more))) (types_in t.core) (h.types of is);
    data_there = λ v x c r.
        let r' : Reaches p v x = reached v x (λ y s. h.data_there v y c s) r in
        datum_between x (h.data_there v x c r');
    tags = h.tags;
    binders = h.binders;
    functions = h.functions;
    tested = h.tested;
    functions_set = h.functions_set;
  }

-- ---- growing

pub grows_same : (w : World) → Grows w w
grows_same w = record { symbols = ([], sym (append-nil w.table.symbols)); objects = ([], sym (append-nil w.heap)) }

on_list : {A : Type 0} (a b c : List A) → ((more : List A) × (b ≡ a ++ more)) → ((more : List A) × (c ≡ b ++ more)) → (more : List A) × (c ≡ a ++ more)
on_list {A = A} a b c m n = (m.0 ++ n.0, n.1 ∙ (ap (λ (l : List A). l ++ n.0) m.1 ∙ append_assoc a m.0 n.0))

pub grows_on : (w u v : World) → Grows w u → Grows u v → Grows w v
grows_on w u v g h = record {
  symbols = on_list w.table.symbols u.table.symbols v.table.symbols g.symbols h.symbols;
  objects = on_list w.heap u.heap v.heap g.objects h.objects;
}

longer_by : {A : Type 0} (a b more : List A) → b ≡ a ++ more → length a ≤ length b
longer_by a b more e = omega (arith, ap length e, length-append a more)

module _ (w u : World) (g : Grows w u) where
  pub more_symbols : length w.table.symbols ≤ length u.table.symbols
  more_symbols = longer_by w.table.symbols u.table.symbols g.symbols.0 g.symbols.1

  pub symbols_stay : (ss : List SymId) → AreSymbols w ss → AreSymbols u ss
  symbols_stay ss h =
      All-weaker (λ (s : SymId). number_of s < length w.table.symbols) (λ (s : SymId). number_of s < length u.table.symbols) (λ s l. omega (arith, l, more_symbols)) ss h

  raw_stays : (o : ObjId) → is_some (slice_get w.heap (index_of o)) ≡ true → slice_get u.heap (index_of o) ≡ slice_get w.heap (index_of o)
  raw_stays o e = ap (λ (l : List table.Object). slice_get l (index_of o)) g.objects.1 ∙ get_append w.heap g.objects.0 (index_of o) e

  there_raw : (o : ObjId) → is_some (slice_get (program_at w).heap (index_of o)) ≡ true → is_some (slice_get w.heap (index_of o)) ≡ true
  there_raw o e = mapped_some object_of (slice_get w.heap (index_of o)) (rw (slice_get-map object_of w.heap (index_of o)) at e)

  objects_stay : Stays (program_at w) (program_at u)
  objects_stay o e =
      slice_get-map object_of u.heap (index_of o) ∙ (ap (option_map object_of) (raw_stays o (there_raw o e)) ∙ sym (slice_get-map object_of w.heap (index_of o)))

  more_there : length (program_at w).symbols ≤ length (program_at u).symbols
  more_there = omega (arith, more_symbols, length-map w.table.symbols symbol_of, length-map u.table.symbols symbol_of)

  -- ---- values

  place_stays : (v : Val) → IsDatum (program_at w) v → place_at u.heap v ≡ place_at w.heap v
  place_stays (Int z) h = refl
  place_stays (Char c) h = refl
  place_stays (Sym s) h = refl
  place_stays (Ref o) h = rw (raw_stays o (there_raw o (object_there (program_at w) (program_at u) objects_stay more_there o h)))

  pub there_stays : (v : Val) → IsThere w v → IsThere u v
  there_stays v h = record {
    datum = λ x r.
        let r' : Reaches (program_at w) v x = reached (program_at w) (program_at u) objects_stay more_there v x h.datum r in
        datum_between (program_at w) (program_at u) objects_stay more_there x (h.datum x r');
    places = λ x r.
        let r' : Reaches (program_at w) v x = reached (program_at w) (program_at u) objects_stay more_there v x h.datum r in
        rw (place_stays x (h.datum x r')) (symbols_stay _ (h.places x r'));
  }

  pub all_there_stay : (vs : List Val) → All (IsThere w) vs → All (IsThere u) vs
  all_there_stay vs h = All-weaker (IsThere w) (IsThere u) there_stays vs h

  -- ---- trees

  pub tree_stays : (t : Top) → IsLawfulTree w t → IsLawfulTree u t
  tree_stays t h = record {
    built = h.built;
    lawful =
        lawful_between (program_at w) (program_at u) objects_stay more_there w.table (sym (length-map w.table.symbols symbol_of)) t h.lawful;
  }

  pub trees_stay : (ts : List Top) → All (IsLawfulTree w) ts → All (IsLawfulTree u) ts
  trees_stay ts h = All-weaker (IsLawfulTree w) (IsLawfulTree u) tree_stays ts h

  -- ---- scopes

  target_stays : (t : Target) → IsSoundTarget w t → IsSoundTarget u t
  target_stays (target.Lexical n) h = h
  target_stays (target.Global s) h = omega (arith, h, more_symbols)

  check_stays : (c : Check) → IsSoundCheck w c → IsSoundCheck u c
  check_stays (of_binding t s) h = (target_stays t h.0, type_stays w.table u.table more_symbols s h.1)
  check_stays (of_uses t s) h = (target_stays t h.0, type_stays w.table u.table more_symbols s h.1)
  check_stays (rebound s) h = omega (arith, h, more_symbols)

  variable_stays : (p : SymId × Target) → IsSoundVariable w p → IsSoundVariable u p
  variable_stays p h = (omega (arith, h.0, more_symbols), target_stays p.1 h.1)

  pub scope_stays : (sc : Scope) → IsTopScope w sc → IsTopScope u sc
  scope_stays sc h = record {
    place = symbols_stay _ h.place;
    variables = All-weaker (IsSoundVariable w) (IsSoundVariable u) variable_stays sc.variables h.variables;
    checks = All-weaker (IsSoundCheck w) (IsSoundCheck u) check_stays sc.checks h.checks;
    functions = h.functions;
    blocks = h.blocks;
    tags = h.tags;
  }
