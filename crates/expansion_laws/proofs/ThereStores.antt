-- Stores that grow, what is there in them, and what is read of their conses.
use Rattle.std.specs.Prelude.{◌≡◌, refl, ℕ, zero, suc, ◌<◌, pos, true, nat_lt, List, [], ◌∷◌, ◌++◌, length, slice_get, Contains, ℤ, Option, Some, None}
use Rattle.std.specs.List.{list_all}
use Rattle.std.proofs.Common.{ap, sym, subst, ◌∙◌, arith, append_assoc, ◌⊎◌, inl, inr}
use Rattle.std.proofs.lemmas.List.{append-nil, length-append}
use Rattle.std.proofs.lemmas.Bool.{and_parts, and_from, ltb-true}
use Rattle.std.proofs.lemmas.Bool.Decides.{nat_tests}
use Rattle.lisp_base.specs.declared.values.Place.{Place}
use Rattle.lisp_base.specs.declared.values.Place.TheVariants as places
use Rattle.lisp_base.specs.declared.values.ObjId.{ObjId}
use Rattle.lisp_base.specs.declared.values.SymId.{SymId}
use Rattle.lisp_base.specs.declared.values.Val.{Val}
use Rattle.lisp_base.specs.declared.values.Val.TheVariants.{Int, Char, Sym, Ref}
use Rattle.lisp_base.specs.Sort.{number_of, index_of, symbol, nil, truth}
use Rattle.lisp_base.specs.Spec.{Spec, Named, Integer, Signed, Unsigned, Mod, Member, Eql, And, Or, Not, Specs, no_spec, spec}
use Rattle.lisp_base.specs.Lawful.{is_item, has_lawful_parts, all_lawful_parts}
use Rattle.lisp_base.specs.BaseNames.{base_names, lambda_list_names, left_out_names, helper_names}
use Rattle.lisp_base.specs.Tables.{Symbol, Object, Cons, Vector, Str, Fun, Cell, base_symbols}
use Rattle.lisp_forms.specs.Conses.{is_nil, cons_parts, cons_at, cons_place, place_at, elements_within, elements}
use Rattle.core_form.specs.Primitives.{in_range}
use Rattle.declarations.specs.Declarations.{Typed}
use Rattle.expansion.specs.declared.heads.Target.{Target}
use Rattle.expansion.specs.declared.heads.Target.TheVariants.{Lexical, Global}
use Rattle.expansion.specs.Scopes.{Check, of_binding, of_uses, rebound}
use Rattle.expansion_laws.specs.There.{Stores, SymbolIsThere, TypeIsThere, PlaceIsThere, PlaceMayBe, values_within, values_at, Reached, itself, within, ObjectIsPresent, IsPresent, an_integer, a_character, a_symbol, an_object, IsThere, AreSound, Grown, TypedIsThere, TargetIsThere, CheckIsThere, NameIsThere, ValuesStay}
use Rattle.expansion_laws.proofs.ThereLists.{Each, no_more, one_more, Where, nothing_there, found_there, where_then, where_map, where_if, some_is_not_none, each_map, each_all, all_contained}

-- ---- growth

pub grown_same : (s : Stores) → Grown s s
grown_same s = record { symbols = ([], sym (append-nil s.table.symbols)); objects = ([], sym (append-nil s.heap)) }

pub grown_on : {s t u : Stores} → Grown s t → Grown t u → Grown s u
grown_on {s} {t} {u} g h = record {
  symbols = (g.symbols.0 ++ h.symbols.0, h.symbols.1 ∙ (ap (λ (xs : List Symbol). xs ++ h.symbols.0) g.symbols.1 ∙ append_assoc s.table.symbols g.symbols.0 h.symbols.0));
  objects = (g.objects.0 ++ h.objects.0, h.objects.1 ∙ (ap (λ (xs : List Object). xs ++ h.objects.0) g.objects.1 ∙ append_assoc s.heap g.objects.0 h.objects.0));
}

longer : {A : Type 0} (xs ys more : List A) (n : ℕ) → ys ≡ xs ++ more → n < length xs → n < length ys
longer xs ys more n e lt = rw e (simp length-append (omega (arith, lt)))

pub get_kept : {A : Type 0} (xs ys : List A) (n : ℕ) (x : A) → slice_get xs n ≡ Some x → slice_get (xs ++ ys) n ≡ Some x
get_kept [] ys n x e = absurd (some_is_not_none x (sym e))
get_kept (y ∷ xs) ys zero x e = e
get_kept (y ∷ xs) ys (suc n) x e = get_kept xs ys n x e

pub get_last : {A : Type 0} (xs : List A) (x : A) → slice_get (xs ++ x ∷ []) (length xs) ≡ Some x
get_last [] x = refl
get_last (y ∷ xs) x = get_last xs x

-- a table that has the symbols of another
module _ (s t : Stores) (k : (x : SymId) → SymbolIsThere s x → SymbolIsThere t x) where
  item_stays : (v : Val) → is_item s.table v ≡ true → is_item t.table v ≡ true
  item_stays (Int z) h = h
  item_stays (Char c) h = h
  item_stays (Sym x) h = grind (arith, nat_tests, k x)
  item_stays (Ref o) h = h

  items_stay : (vs : List Val) → list_all (is_item s.table) vs ≡ true → list_all (is_item t.table) vs ≡ true
  items_stay [] h = refl
  items_stay (v ∷ vs) h = let both = and_parts _ _ h in and_from _ _ (item_stays v both.0) (items_stay vs both.1)

  mutual
    parts_stay : (x : Spec) → has_lawful_parts s.table x ≡ true → has_lawful_parts t.table x ≡ true
    parts_stay (Named name) h = refl
    parts_stay (Integer lo hi) h = h
    parts_stay (Signed bits) h = h
    parts_stay (Unsigned bits) h = h
    parts_stay (Mod n) h = h
    parts_stay (Member items) h = items_stay items h
    parts_stay (Eql item) h = item_stays item h
    parts_stay (And ts) h = all_parts_stay ts h
    parts_stay (Or ts) h = all_parts_stay ts h
    parts_stay (Not x) h = parts_stay x h

    all_parts_stay : (xs : Specs) → all_lawful_parts s.table xs ≡ true → all_lawful_parts t.table xs ≡ true
    all_parts_stay no_spec h = refl
    all_parts_stay (spec x xs) h = let both = and_parts _ _ h in and_from _ _ (parts_stay x both.0) (all_parts_stay xs both.1)

  pub type_kept : (x : Spec) → TypeIsThere s x → TypeIsThere t x
  type_kept x h = record { parts = parts_stay x h.parts; size = h.size }

module _ {s t : Stores} (g : Grown s t) where
  pub symbol_stays : (x : SymId) → SymbolIsThere s x → SymbolIsThere t x
  symbol_stays x h = longer s.table.symbols t.table.symbols g.symbols.0 (number_of x) g.symbols.1 h

  place_present_stays : (p : Place) → PlaceIsThere s p → PlaceIsThere t p
  place_present_stays (places.File offset tail) h = tt
  place_present_stays (places.Prelude name) h = symbol_stays name h

  object_stays : (x : Object) → ObjectIsPresent s x → ObjectIsPresent t x
  object_stays (Cons car cdr None) h = tt
  object_stays (Cons car cdr (Some place)) h = place_present_stays place h
  object_stays (Vector items) h = h
  object_stays (Str letters) h = h
  object_stays (Fun lambda cells) h = h
  object_stays (Cell v) h = h

  object_kept : (n : ℕ) (x : Object) → slice_get s.heap n ≡ Some x → slice_get t.heap n ≡ Some x
  object_kept n x e = ap (λ (xs : List Object). slice_get xs n) g.objects.1 ∙ get_kept s.heap g.objects.0 n x e

  present_stays : (v : Val) → IsPresent s v → IsPresent t v
  present_stays v (an_integer h) = an_integer h
  present_stays v (a_character h) = a_character h
  present_stays v (a_symbol {x = x} h) = a_symbol (symbol_stays x h)
  present_stays v (an_object {o = o} {x = x} e h) = an_object (object_kept (index_of o) x e) (object_stays x h)

  -- what is in a value that is present stays the same
  values_kept : (v : Val) → IsPresent s v → values_at t.heap v ≡ values_at s.heap v
  values_kept v (an_integer h) = refl
  values_kept v (a_character h) = refl
  values_kept v (a_symbol h) = refl
  values_kept v (an_object {o = o} {x = x} e h) = ap values_within (object_kept (index_of o) x e) ∙ sym (ap values_within e)

  reached_before : (v : Val) → IsThere s v → (u : Val) → Reached t.heap v u → Reached s.heap v u
  reached_before v h u itself = itself
  reached_before v h x (within u w r c) =
      let before = reached_before v h u r in
      within u w before (subst (λ (xs : List Val). Contains xs w) (values_kept u (h.reached u before)) c)

  pub value_stays : (v : Val) → IsThere s v → IsThere t v
  value_stays v h = record { reached = λ u r. present_stays u (h.reached u (reached_before v h u r)) }

  pub type_stays : (x : Spec) → TypeIsThere s x → TypeIsThere t x
  type_stays x h = type_kept s t symbol_stays x h

  pub types_stay : (xs : List Spec) → Each (TypeIsThere s) xs → Each (TypeIsThere t) xs
  types_stay xs h = each_map type_stays h

  pub typed_stays : (x : Typed) → TypedIsThere s x → TypedIsThere t x
  typed_stays x h = (symbol_stays x.variable h.0, type_stays x.spec h.1)

  pub symbols_stay : (xs : List SymId) → Each (SymbolIsThere s) xs → Each (SymbolIsThere t) xs
  symbols_stay xs h = each_map symbol_stays h

  pub values_stay : {vs : List Val} → Each (IsThere s) vs → Each (IsThere t) vs
  values_stay h = each_map value_stays h

  pub place_stays : (p : Place) → PlaceIsThere s p → PlaceIsThere t p
  place_stays (places.File offset tail) h = tt
  place_stays (places.Prelude name) h = symbol_stays name h

  pub target_stays : (x : Target) → TargetIsThere s x → TargetIsThere t x
  target_stays (Lexical n) h = tt
  target_stays (Global x) h = symbol_stays x h

  pub check_stays : (x : Check) → CheckIsThere s x → CheckIsThere t x
  check_stays (of_binding target x) h = type_stays x h
  check_stays (of_uses target x) h = type_stays x h
  check_stays (rebound x) h = tt

  pub name_stays : (x : SymId × Target) → NameIsThere s x → NameIsThere t x
  name_stays x h = target_stays x.1 h

pub values_are_kept : ValuesStay
values_are_kept old new v g h = value_stays g v h

-- ---- the symbols that every table begins with

names_count : length base_symbols ≡ 314
unfolding base_names lambda_list_names left_out_names helper_names
names_count = refl

-- what a value without others in it reaches
only_itself : (heap : List Object) (v u : Val) → values_at heap v ≡ [] → Reached heap v u → u ≡ v
only_itself heap v u e itself = refl
only_itself heap v x e (within u w r c) =
    let same = only_itself heap v u e r in
    let none : Contains [] w = subst (λ (xs : List Val). Contains xs w) (ap (values_at heap) same ∙ e) c in
    absurd (omega (arith, none.1))

pub atom_there : (s : Stores) (v : Val) → values_at s.heap v ≡ [] → IsPresent s v → IsThere s v
atom_there s v e h = record { reached = λ u r. subst (IsPresent s) (sym (only_itself s.heap v u e r)) h }

pub symbol_there : {s : Stores} (x : SymId) → SymbolIsThere s x → IsThere s (Sym x)
symbol_there {s} x h = atom_there s (Sym x) refl (a_symbol h)

present_symbol : {s : Stores} (x : SymId) → IsPresent s (Sym x) → SymbolIsThere s x
present_symbol x (a_symbol h) = h

pub symbol_of_there : {s : Stores} (x : SymId) → IsThere s (Sym x) → SymbolIsThere s x
symbol_of_there x h = present_symbol x (h.reached (Sym x) itself)

-- the number of a base name, of which there are 314
abbrev pub IsBase : ℕ → Type 0
IsBase n = nat_lt n 314 ≡ true

module _ {s : Stores} (sound : AreSound s) where
  pub base_symbol_there : (n : ℕ) → n < 314 → SymbolIsThere s (symbol n)
  base_symbol_there n lt =
      longer base_symbols s.table.symbols sound.begins.0 n sound.begins.1 (rw names_count lt)

  pub based : (n : ℕ) → IsBase n → SymbolIsThere s (symbol n)
  based n b = base_symbol_there n (ltb-true n 314 b)

  pub base_there : (n : ℕ) → n < 314 → IsThere s (Sym (symbol n))
  base_there n lt = symbol_there (symbol n) (base_symbol_there n lt)

  pub nil_there : IsThere s nil
  nil_there = base_there 0 (omega arith)

  pub truth_there : IsThere s truth
  truth_there = base_there 1 (omega arith)

pub integer_there : {s : Stores} (z : ℤ) → in_range z ≡ true → IsThere s (Int z)
integer_there {s} z h = atom_there s (Int z) refl (an_integer h)

pub number_there : {s : Stores} (n : ℕ) → n < 2 → IsThere s (Int (pos n))
number_there zero lt = integer_there (pos 0) refl
number_there (suc zero) lt = integer_there (pos 1) refl
number_there (suc (suc n)) lt = absurd (omega (arith, lt))

-- ---- conses

abbrev pub PairIsThere : Stores → Val × Val → Type 0
PairIsThere s p = IsThere s p.0 × IsThere s p.1

abbrev pub ValuesAreThere : Stores → List Val → Type 0
ValuesAreThere s vs = Each (IsThere s) vs

reached_on : {heap : List Object} (v u w : Val) → Reached heap v u → Reached heap u w → Reached heap v w
reached_on v u w r itself = r
reached_on v u y r (within x w k c) = within x w (reached_on v u x r k) c

-- what is in a value that is there is there
inner_there : (s : Stores) (v w : Val) → IsThere s v → Contains (values_at s.heap v) w → IsThere s w
inner_there s v w h c = record { reached = λ u r. h.reached u (reached_on v w u (within v w itself c) r) }

module _ (s : Stores) where
  parts_there : (o : ObjId) → IsThere s (Ref o) → (x : Option Object) → slice_get s.heap (index_of o) ≡ x → Where (PairIsThere s) (cons_parts x)
  parts_there o h None e = nothing_there
  parts_there o h (Some (Cons car cdr place)) e = found_there (
    inner_there s (Ref o) car h (subst (λ (xs : List Val). Contains xs car) (sym (ap values_within e)) (0, omega arith, refl)),
    inner_there s (Ref o) cdr h (subst (λ (xs : List Val). Contains xs cdr) (sym (ap values_within e)) (1, omega arith, refl)),
  )
  parts_there o h (Some (Vector items)) e = nothing_there
  parts_there o h (Some (Str letters)) e = nothing_there
  parts_there o h (Some (Fun lambda cells)) e = nothing_there
  parts_there o h (Some (Cell v)) e = nothing_there

  pub cons_there : (v : Val) → IsThere s v → Where (PairIsThere s) (cons_at s.heap v)
  cons_there (Int z) h = nothing_there
  cons_there (Char c) h = nothing_there
  cons_there (Sym x) h = nothing_there
  cons_there (Ref o) h = parts_there o h _ refl

  place_present : (x : Object) → ObjectIsPresent s x → PlaceMayBe s (cons_place (Some x))
  place_present (Cons car cdr place) h = h
  place_present (Vector items) h = tt
  place_present (Str letters) h = tt
  place_present (Fun lambda cells) h = tt
  place_present (Cell v) h = tt

  pub present_place : (v : Val) → IsPresent s v → PlaceMayBe s (place_at s.heap v)
  present_place v (an_integer h) = tt
  present_place v (a_character h) = tt
  present_place v (a_symbol h) = tt
  present_place v (an_object {x = x} e h) = subst (λ (y : Option Object). PlaceMayBe s (cons_place y)) (sym e) (place_present x h)

  pub place_of_there : (v : Val) → IsThere s v → PlaceMayBe s (place_at s.heap v)
  place_of_there v h = present_place v (h.reached v itself)

  within_there : (n : ℕ) (v : Val) → IsThere s v → Where (ValuesAreThere s) (elements_within n s.heap v)
  within_there zero v h = where_if (is_nil v) _ _ (found_there no_more) nothing_there
  within_there (suc n) v h =
      where_if (is_nil v) _ _ (found_there no_more)
      (where_then _ (cons_there v h) (λ p k. where_map _ (within_there n p.1 k.1) (λ xs l. one_more k.0 l)))

  pub elements_there : (v : Val) → IsThere s v → Where (ValuesAreThere s) (elements s.heap v)
  unfolding elements
  elements_there v h = within_there (length s.heap) v h

-- ---- a new cons

first_step : {heap : List Object} (v u : Val) → Reached heap v u → (u ≡ v) ⊎ ((w : Val) × Contains (values_at heap v) w × Reached heap w u)
first_step v u itself = inl refl
first_step {heap} v y (within u w r c) = by (first_step v u r)
  where
    by : (u ≡ v) ⊎ ((x : Val) × Contains (values_at heap v) x × Reached heap x u) → (w ≡ v) ⊎ ((x : Val) × Contains (values_at heap v) x × Reached heap x w)
    by (inl e) = inr (w, subst (λ (y : Val). Contains (values_at heap y) w) e c, itself)
    by (inr x) = inr (x.0, x.1, within u w x.2 c)

pub cons_is_there : (s : Stores) (o : ObjId) (car cdr : Val) → slice_get s.heap (index_of o) ≡ Some (Cons car cdr None) → IsThere s car → IsThere s cdr → IsThere s (Ref o)
cons_is_there s o car cdr e h k = record { reached = λ u r. by u (first_step (Ref o) u r) }
  where
    part : (w : Val) → Contains (values_at s.heap (Ref o)) w → IsThere s w
    part w c = all_contained (IsThere s) (car ∷ cdr ∷ []) w (each_all {P = IsThere s} (one_more h (one_more k no_more))) (subst (λ (xs : List Val). Contains xs w) (ap values_within e) c)

    by : (u : Val) → (u ≡ Ref o) ⊎ ((w : Val) × Contains (values_at s.heap (Ref o)) w × Reached s.heap w u) → IsPresent s u
    by u (inl same) = subst (IsPresent s) (sym same) (an_object e tt)
    by u (inr x) = (part x.0 x.1).reached u x.2
