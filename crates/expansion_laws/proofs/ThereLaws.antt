-- The laws of what is there.
use Rattle.std.specs.Prelude.{◌≡◌, refl, ℕ, zero, suc, ◌<◌, List, [], ◌∷◌, length, map, slice_get, Contains, Option, Some, None}
use Rattle.std.specs.Option.{option_map}
use Rattle.std.proofs.Common.{ap, subst, ◌∙◌}
use Rattle.std.proofs.lemmas.List.{length-map}
use Rattle.lisp_base.specs.declared.values.ObjId.{ObjId}
use Rattle.lisp_base.specs.declared.values.SymId.{SymId}
use Rattle.lisp_base.specs.declared.values.Val.{Val}
use Rattle.lisp_base.specs.declared.values.Val.TheVariants.{Int, Char, Sym, Ref}
use Rattle.lisp_base.specs.Sort.{number_of, index_of}
use Rattle.lisp_base.specs.Spec.{Spec}
use Rattle.lisp_base.specs.Lawful.{IsLawful as IsLawfulType}
use Rattle.lisp_base.specs.Tables.{Table, Object, Cons, Vector, Str, Fun, Cell}
use Rattle.core_form.specs.Eval.{Program}
use Rattle.core_form.specs.Lawful.{symbol_of, object_of, place_symbols, top_symbols, tree_symbols, types_in, quoted, tags_in, IsDatum, Reaches, values_in}
use Rattle.core_form.specs.Lawful as lawful
use Rattle.expansion.specs.Scopes.{Scope}
use Rattle.expansion.specs.Steps.{World}
use Rattle.expansion_laws.specs.There.{Stores, stores, stores_of, SymbolIsThere, TypeIsThere, values_within, values_at, Reached, itself, within, ObjectIsPresent, IsPresent, an_integer, a_character, a_symbol, an_object, IsThere, IsSoundWorld, IsSoundScope, DataAreThere, TreesStay, Holds, ThereAreData, TopsHaveData}
use Rattle.expansion_laws.proofs.ThereLists.{all_each, each_all, each_append, all_map, all_contained}
use Rattle.expansion_laws.proofs.ThereStores.{value_stays, symbol_stays, type_stays, type_kept}
use Rattle.expansion_laws.proofs.ThereTrees.{Whole, tree_there, place_named}
use Rattle.expansion_laws.proofs.ThereSteps.{IsInOrder, Safe, safe_result}
use Rattle.expansion_laws.proofs.ThereScopes.{ScopeIsThere}
use Rattle.expansion_laws.proofs.ThereMaking.{expand_safe}

-- ---- expansions

pub in_order : (w : World) → IsSoundWorld w → IsInOrder w
in_order w h = record { sound = record { begins = h.begins }; specials = all_each w.specials h.specials; types = all_each w.declaimed h.declaimed }

pub sound_world : (w : World) → IsInOrder w → IsSoundWorld w
sound_world w h = record { begins = h.sound.begins; specials = each_all h.specials; declaimed = each_all h.types }

pub scope_there : (s : Stores) (sc : Scope) → IsSoundScope s sc → ScopeIsThere s sc
scope_there s sc h = record { place = h.place; variables = all_each sc.variables h.variables; checks = all_each sc.checks h.checks }

pub data_are_there : DataAreThere
data_are_there fuel levels chain sc v w after e is world scope there =
    let k = safe_result (subst (Safe w Whole) is (expand_safe fuel levels chain sc v (record { order = in_order w world; scope = scope_there (stores_of w) sc scope }) there)) in
    record { sound = sound_world after k.0.order; grown = k.0.grown; tree = tree_there (stores_of after) e k.1 }

-- ---- growth

pub trees_are_kept : TreesStay
trees_are_kept old new e g h = record {
  symbols = all_map (tree_symbols e) (symbol_stays g) h.symbols;
  types = all_map (types_in e) (type_stays g) h.types;
  values = all_map (quoted e) (value_stays g) h.values;
  tags = h.tags;
}

-- ---- data

get_map : {A B : Type 0} (f : A → B) (xs : List A) (n : ℕ) → slice_get (map f xs) n ≡ option_map f (slice_get xs n)
get_map f [] n = refl
get_map f (x ∷ xs) zero = refl
get_map f (x ∷ xs) (suc n) = get_map f xs n

same_within : (x : Option Object) → lawful.values_within (option_map object_of x) ≡ values_within x
same_within None = refl
same_within (Some (Cons car cdr place)) = refl
same_within (Some (Vector items)) = refl
same_within (Some (Str letters)) = refl
same_within (Some (Fun lambda cells)) = refl
same_within (Some (Cell v)) = refl

module _ (p : Program) (s : Stores) (h : Holds p s) where
  pub object_held : (n : ℕ) → slice_get p.heap n ≡ option_map object_of (slice_get s.heap n)
  object_held n = ap (λ (xs : List _). slice_get xs n) h.heap ∙ get_map object_of s.heap n

  pub same_values : (v : Val) → values_in p v ≡ values_at s.heap v
  same_values (Int z) = refl
  same_values (Char c) = refl
  same_values (Sym x) = refl
  same_values (Ref o) = ap lawful.values_within (object_held (index_of o)) ∙ same_within (slice_get s.heap (index_of o))

  pub reached_there : (v u : Val) → Reaches p v u → Reached s.heap v u
  reached_there v u lawful.itself = itself
  reached_there v x (lawful.within u w r c) = within u w (reached_there v u r) (subst (λ (xs : List Val). Contains xs w) (same_values u) c)

  pub as_many : length p.symbols ≡ length s.table.symbols
  as_many = ap length h.symbols ∙ length-map s.table.symbols symbol_of

  symbol_held : (x : SymId) → SymbolIsThere s x → number_of x < length p.symbols
  symbol_held x k = rw as_many k

  object_datum : (o : ObjId) (x : Object) → slice_get p.heap (index_of o) ≡ Some (object_of x) → ObjectIsPresent s x → IsDatum p (Ref o)
  object_datum o (Cons car cdr place) e k = rw e tt
  object_datum o (Vector items) e k = rw e k
  object_datum o (Str letters) e k = rw e k
  object_datum o (Fun lambda cells) e k = elim k [ ]
  object_datum o (Cell v) e k = elim k [ ]

  datum : (v : Val) → IsPresent s v → IsDatum p v
  datum v (an_integer k) = k
  datum v (a_character k) = k
  datum v (a_symbol {x = x} k) = symbol_held x k
  datum v (an_object {o = o} {x = x} e k) = object_datum o x (object_held (index_of o) ∙ ap (option_map object_of) e) k

  type_held : (table : Table) (t : Spec) → length table.symbols ≡ length p.symbols → TypeIsThere s t → IsLawfulType table t
  type_held table t e k = type_kept s (stores table []) (λ x i. rw e (symbol_held x i)) t k

pub there_are_data : ThereAreData
there_are_data p s v w h there r = datum p s h w (there.reached w (reached_there p s h v w r))

pub tops_have_data : TopsHaveData
tops_have_data p s t h place tree = record {
  symbols = all_map (top_symbols t) (symbol_held p s h) (each_all (each_append (place_named s t.place place) (all_each (tree_symbols t.core) tree.symbols)));
  types = λ table e. all_map (types_in t.core) (λ x k. type_held p s h table x e k) tree.types;
  data_there = λ v w c r. there_are_data p s v w h (all_contained (IsThere s) (quoted t.core) v tree.values c) r;
  tags = tree.tags;
}
