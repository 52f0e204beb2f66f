-- The laws of what is read and made of forms that are there, and of their scopes.
use Rattle.std.specs.Prelude.{◌≡◌, refl, List, Contains, slice_get, Option, Some, None}
use Rattle.std.specs.Option.{option_map}
use Rattle.std.proofs.Common.{ap, sym, subst, ◌∙◌}
use Rattle.lisp_base.specs.declared.values.ObjId.{ObjId}
use Rattle.lisp_base.specs.declared.values.Val.{Val}
use Rattle.lisp_base.specs.declared.values.Val.TheVariants.{Int, Char, Sym, Ref}
use Rattle.lisp_base.specs.Sort.{index_of}
use Rattle.lisp_base.specs.Tables.{Object, Cons, Vector, Str, Fun, Cell}
use Rattle.lisp_forms.specs.Conses.{cons_place, place_at}
use Rattle.core_form.specs.Eval.{Program}
use Rattle.core_form.specs.Lawful.{object_of, IsDatum, Reaches}
use Rattle.core_form.specs.Lawful as lawful
use Rattle.declarations.specs.Declarations.{Declared, Reading, declared, bad_form, bad_type, bad_policy}
use Rattle.std_macros.specs.Expanding.{gives as makes_form}
use Rattle.expansion.specs.Scopes.{Scope}
use Rattle.expansion.specs.Steps.{World, Answer, gives, refused, and_then, ◌>>=◌, pure, refuse, look}
use Rattle.expansion.specs.Bindings.{Contents, contents, declared_or, read_body, contents_of}
use Rattle.expansion_laws.specs.There.{Stores, stores, stores_of, PlaceMayBe, Reached, itself, within, IsPresent, an_integer, a_character, a_symbol, an_object, IsSoundScope, Holds}
use Rattle.expansion_laws.specs.ThereParts.{PairsAreThere, ElementsAreThere, DeclaredIsThere, BodiesAreThere, TypesAreLawful, IsMadeForm, MacrosAreThere, FormsHaveScopes, DeclarationsHaveScopes, ScopesStay, DeclarationsStay, DataAreValues}
use Rattle.expansion_laws.proofs.ThereLists.{where_is, all_each, each_all}
use Rattle.expansion_laws.proofs.ThereStores.{cons_there, elements_there}
use Rattle.expansion_laws.proofs.ThereTypes.{specifier_lawful}
use Rattle.expansion_laws.proofs.ThereReading.{DeclaredAreThere, declared_stay}
use Rattle.expansion_laws.proofs.ThereMacros.{WhereExpanded, is_expanded, expanded_there}
use Rattle.expansion_laws.proofs.ThereSteps.{Safe, safe_result}
use Rattle.expansion_laws.proofs.ThereScopes.{ScopeIsThere, scope_stays, at_form_there, declared_in_there}
use Rattle.expansion_laws.proofs.ThereBindings.{ContentsAreThere, contents_safe}
use Rattle.expansion_laws.proofs.ThereLaws.{in_order, scope_there, object_held, same_values, as_many}

-- ---- parts

pub pairs_are_there : PairsAreThere
pairs_are_there s v p h e = where_is _ p e (cons_there s v h)

pub elements_are_there : ElementsAreThere
elements_are_there s v vs h e = each_all (where_is _ vs e (elements_there s v h))

pub types_are_lawful : TypesAreLawful
types_are_lawful heap table v t e = where_is _ t e (specifier_lawful heap table v)

declared_is_there : (s : Stores) (d : Declared) → DeclaredAreThere s d → DeclaredIsThere s d
declared_is_there s d h = record { types = each_all h.types; specials = each_all h.specials }

declared_are_there : (s : Stores) (d : Declared) → DeclaredIsThere s d → DeclaredAreThere s d
declared_are_there s d h = record { types = all_each d.types h.types; specials = all_each d.specials h.specials }

-- the world after a result
world_or : {A : Type 0} → World → Answer A → World
world_or w (gives a u) = u
world_or w (refused kind place) = w

-- nothing changes as a body is read
read_same : (sc : Scope) (vs : List Val) (r : Reading) (w after : World) (c : Contents) → and_then (declared_or sc r w) (λ d. pure (contents vs d)) ≡ gives c after → after ≡ w
unfolding declared_or pure refuse world_or
read_same sc vs (declared d) w after c e = sym (ap (world_or w) e)
read_same sc vs bad_form w after c e = sym (ap (world_or w) e)
read_same sc vs bad_type w after c e = sym (ap (world_or w) e)
read_same sc vs bad_policy w after c e = sym (ap (world_or w) e)

contents_same : (sc : Scope) (vs : List Val) (w after : World) (c : Contents) → contents_of sc vs w ≡ gives c after → after ≡ w
unfolding contents_of read_body ◌>>=◌ look
contents_same sc vs w after c e = read_same sc _ _ w after c e

pub bodies_are_there : BodiesAreThere
bodies_are_there sc vs w after c e world there =
    let k = safe_result (subst (Safe w ContentsAreThere) e (contents_safe sc vs (in_order w world) (all_each vs there))) in
    let same = contents_same sc vs w after c e in
    let whole : ContentsAreThere (stores_of w) c = subst (λ (u : World). ContentsAreThere (stores_of u) c) same k.1 in
    record { same = same; declared = declared_is_there (stores_of w) c.declared whole.declared; forms = each_all whole.forms }

-- ---- forms of macros

made_form : {s : Stores} (v : Val) (table : _) (heap : List Object) → WhereExpanded s (makes_form v table heap) → IsMadeForm s v (stores table heap)
made_form v table heap (is_expanded m) = record { sound = m.sound; grown = m.grown; there = m.there }

pub macros_are_there : MacrosAreThere
macros_are_there table new_table heap new_heap v made e sound there =
    made_form made new_table new_heap (subst (WhereExpanded (stores table heap)) e (expanded_there table heap sound v there))

-- ---- scopes

scope_sound : (s : Stores) (sc : Scope) → ScopeIsThere s sc → IsSoundScope s sc
scope_sound s sc h = record { place = h.place; variables = each_all h.variables; checks = each_all h.checks }

pub forms_have_scopes : FormsHaveScopes
forms_have_scopes s v sc h k = scope_sound s _ (at_form_there s v sc h (scope_there s sc k))

pub declarations_have_scopes : DeclarationsHaveScopes
declarations_have_scopes s d sc h k = scope_sound s _ (declared_in_there s d sc (declared_are_there s d h) (scope_there s sc k))

pub scopes_are_kept : ScopesStay
scopes_are_kept old new sc g h = scope_sound new sc (scope_stays g sc (scope_there old sc h))

pub declarations_are_kept : DeclarationsStay
declarations_are_kept old new d g h = declared_is_there new d (declared_stay g d (declared_are_there old d h))

-- ---- data

module _ (p : Program) (s : Stores) (h : Holds p s) where
  reaches : (v u : Val) → Reached s.heap v u → Reaches p v u
  reaches v u itself = lawful.itself
  reaches v x (within u w r c) = lawful.within u w (reaches v u r) (subst (λ (xs : List Val). Contains xs w) (sym (same_values p s h u)) c)

  held : (o : ObjId) (x : Option Object) → slice_get s.heap (index_of o) ≡ x → slice_get p.heap (index_of o) ≡ option_map object_of x
  held o x e = object_held p s h (index_of o) ∙ ap (option_map object_of) e

  object_present : (o : ObjId) (x : Option Object) → slice_get s.heap (index_of o) ≡ x → IsDatum p (Ref o) → PlaceMayBe s (place_at s.heap (Ref o)) → IsPresent s (Ref o)
  object_present o None e d q = elim (rw (held o None e) at d) [ ]
  object_present o (Some (Cons car cdr place)) e d q = an_object e (subst (λ (y : Option Object). PlaceMayBe s (cons_place y)) e q)
  object_present o (Some (Vector items)) e d q = an_object e (rw (held o (Some (Vector items)) e) at d)
  object_present o (Some (Str letters)) e d q = an_object e (rw (held o (Some (Str letters)) e) at d)
  object_present o (Some (Fun lambda cells)) e d q = elim (rw (held o (Some (Fun lambda cells)) e) at d) [ ]
  object_present o (Some (Cell v)) e d q = elim (rw (held o (Some (Cell v)) e) at d) [ ]

  present : (v : Val) → IsDatum p v → PlaceMayBe s (place_at s.heap v) → IsPresent s v
  present (Int z) d q = an_integer d
  present (Char c) d q = a_character d
  present (Sym x) d q = a_symbol (rw (as_many p s h) at d)
  present (Ref o) d q = object_present o _ refl d q

pub data_are_values : DataAreValues
data_are_values p s v h all_data places = record { reached = λ u r. present p s h u (all_data u (reaches p s h v u r)) (places u (reaches p s h v u r)) }
