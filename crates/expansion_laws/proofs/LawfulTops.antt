-- Scopes of the top of a file, and the places of what is there.
use Rattle.std.specs.Prelude.{◌≡◌, refl, ℕ, true, List, [], ◌∷◌, All, fold}
use Rattle.std.proofs.Common.{sym, subst}
use Rattle.std.proofs.lemmas.List.Elements.{All-nil, All-cons, All-head, All-push, All-weaker}
use Rattle.lisp_base.specs.declared.values.Place.TheVariants as places
use Rattle.lisp_base.specs.declared.values.SymId.{SymId}
use Rattle.lisp_base.specs.declared.values.Val.{Val}
use Rattle.core_form.specs.Facts.{has_number}
use Rattle.declarations.specs.Declarations.{Typed}
use Rattle.expansion.specs.declared.heads.Target.{Target}
use Rattle.expansion.specs.declared.heads.Target.TheVariants.{Lexical, Global}
use Rattle.expansion.specs.Scopes.{Scope, at_form, with_special, with_type, declared_in}
use Rattle.expansion_laws.specs.CheckedTrees.{Means}
use Rattle.expansion_laws.specs.There.{SymbolIsThere, NameIsThere, CheckIsThere}
use Rattle.expansion_laws.specs.Tested.{IsGlobal}
use Rattle.expansion_laws.specs.LawfulTrees.{IsAtTop, TopsAreEmpty, TopsAreSound, FormsStayAtTop, DeclarationsStayAtTop, PoliciesStayAtTop, TopsAreBound, PlacesHaveSymbols, SymbolsHavePlaces, ReachedPlacesAreThere}
use Rattle.expansion_laws.proofs.ThereStores.{present_place}
use Rattle.expansion_laws.proofs.ThereLaws.{reached_there}

-- ---- empty scopes

pub tops_are_empty : TopsAreEmpty
tops_are_empty place is_fixed policy = record { variables = All-nil (λ (p : SymId × Target). IsGlobal p.1); functions = refl; blocks = refl; tags = refl }

pub tops_are_sound : TopsAreSound
tops_are_sound s place is_fixed policy here = record { place = here; variables = All-nil (NameIsThere s); checks = All-nil (CheckIsThere s) }

-- ---- scopes that stay at the top

pub forms_stay : FormsStayAtTop
unfolding at_form
forms_stay heap v sc h = record { variables = h.variables; functions = h.functions; blocks = h.blocks; tags = h.tags }

pub policies_stay : PoliciesStayAtTop
policies_stay policy sc h = record { variables = h.variables; functions = h.functions; blocks = h.blocks; tags = h.tags }

specials_stay : (ss : List SymId) (sc : Scope) → IsAtTop sc → IsAtTop (fold with_special sc ss)
specials_stay [] sc h = h
specials_stay (s ∷ ss) sc h = specials_stay ss (with_special sc s) (record {
  variables = All-push (λ (p : SymId × Target). IsGlobal p.1) sc.variables (s, Global s) h.variables tt;
  functions = h.functions;
  blocks = h.blocks;
  tags = h.tags;
})

types_stay : (ds : List Typed) (sc : Scope) → IsAtTop sc → IsAtTop (fold with_type sc ds)
types_stay [] sc h = h
types_stay (d ∷ ds) sc h = types_stay ds (with_type sc d) (record { variables = h.variables; functions = h.functions; blocks = h.blocks; tags = h.tags })

pub declarations_stay : DeclarationsStayAtTop
unfolding declared_in
declarations_stay d sc h =
    policies_stay d.policy (fold with_type (fold with_special sc d.specials) d.types) (types_stay d.types (fold with_special sc d.specials) (specials_stay d.specials sc h))

-- ---- what is bound round a node

global_means : (xs : List ℕ) (t : Target) → IsGlobal t → Means xs t
global_means xs (Lexical n) h = elim h [ ]
global_means xs (Global s) h = tt

of_none : {A : Type 0} (P : A → Type 0) (xs : List A) → xs ≡ [] → All P xs
of_none P xs is = subst (All P) (sym is) (All-nil P)

pub tops_are_bound : TopsAreBound
tops_are_bound sc round h = record {
  variables = All-weaker (λ (p : SymId × Target). IsGlobal p.1) (λ (p : SymId × Target). Means round.variables p.1) (λ (p : SymId × Target). global_means round.variables p.1) sc.variables h.variables;
  functions = of_none (λ (p : SymId × ℕ). has_number p.1 round.functions ≡ true) sc.functions h.functions;
  blocks = of_none (λ (p : SymId × ℕ). has_number p.1 round.blocks ≡ true) sc.blocks h.blocks;
  tags = of_none (λ (p : Val × ℕ). has_number p.1 round.tags ≡ true) sc.tags h.tags;
}

-- ---- places

pub places_have_symbols : PlacesHaveSymbols
places_have_symbols s (places.File offset tail) h = tt
places_have_symbols s (places.Prelude name) h = All-head (SymbolIsThere s) name [] h

pub symbols_have_places : SymbolsHavePlaces
symbols_have_places s (places.File offset tail) h = All-nil (SymbolIsThere s)
symbols_have_places s (places.Prelude name) h = All-cons (SymbolIsThere s) name [] h (All-nil (SymbolIsThere s))

pub reached_places_are_there : ReachedPlacesAreThere
reached_places_are_there p s v u h there r = present_place s u (there.reached u (reached_there p s h v u r))
