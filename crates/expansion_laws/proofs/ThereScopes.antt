-- Scopes of what is there: what names mean in them, the types that are declared, and the scopes that grow from them.
use Rattle.std.specs.Prelude.{ℕ, suc, Bool, true, false, List, [], ◌∷◌, ◌++◌, fold, Option, Some, None, if◌then◌else◌}
use Rattle.lisp_base.specs.declared.values.Place.{Place}
use Rattle.lisp_base.specs.declared.values.SymId.{SymId}
use Rattle.lisp_base.specs.declared.values.Val.{Val}
use Rattle.lisp_base.specs.Spec.{Spec}
use Rattle.lisp_base.specs.Tables.{Object}
use Rattle.lisp_forms.specs.Conses.{place_at}
use Rattle.declarations.specs.Declarations.{Typed, Declared}
use Rattle.core_form.specs.Lawful.{variable_symbols}
use Rattle.core_form.specs.declared.tree.Variable.{Variable}
use Rattle.core_form.specs.declared.tree.Variable.TheVariants as variable
use Rattle.expansion.specs.declared.heads.Target.{Target}
use Rattle.expansion.specs.declared.heads.Target.TheVariants.{Global}
use Rattle.expansion.specs.Scopes.{value_or, same_target, Check, of_binding, of_uses, rebound, Scope, at_form, later, second, named, variable_at, ends, and_set, and_used, types_set, types_used, with_variable, with_function, with_block, with_tag, with_special, with_type, declared_in}
use Rattle.expansion.specs.Expanding.{Bound, target_of, checks_for, new_checks, with_bound, with_all, with_some, with_named, with_definitions, with_tags, definition_name}
use Rattle.expansion.specs.Forms.{is_tag}
use Rattle.expansion_laws.specs.There.{Stores, SymbolIsThere, IsThere, TypeIsThere, PlaceIsThere, PlaceMayBe, Grown, TypedIsThere, TargetIsThere, CheckIsThere, NameIsThere}
use Rattle.expansion_laws.proofs.ThereLists.{Each, no_more, one_more, Where, nothing_there, found_there, each_map, each_append, each_last, each_mapped}
use Rattle.expansion_laws.proofs.ThereStores.{place_of_there, place_stays, name_stays, check_stays}
use Rattle.expansion_laws.proofs.ThereReading.{DeclaredAreThere}
use Rattle.expansion_laws.proofs.ThereSketches.{BinderIsThere}
use Rattle.expansion_laws.proofs.ThereTrees.{ParameterIsThere}

-- the symbol of its place, the symbols that its variables are the values of, and its types are there
pub record ScopeIsThere (s : Stores) (sc : Scope) : Type 0 where
  pub place : PlaceIsThere s sc.place
  pub variables : Each (NameIsThere s) sc.variables
  pub checks : Each (CheckIsThere s) sc.checks

pub scope_stays : {s t : Stores} (g : Grown s t) (sc : Scope) → ScopeIsThere s sc → ScopeIsThere t sc
scope_stays g sc h = record { place = place_stays g sc.place h.place; variables = each_map (name_stays g) h.variables; checks = each_map (check_stays g) h.checks }

-- ---- places

pub at_form_there : (s : Stores) (v : Val) (sc : Scope) → IsThere s v → ScopeIsThere s sc → ScopeIsThere s (at_form s.heap v sc)
unfolding at_form
at_form_there s v sc i h = record { place = own sc.is_fixed (place_at s.heap v) (place_of_there s v i); variables = h.variables; checks = h.checks }
  where
    own : (b : Bool) (found : Option Place) → PlaceMayBe s found → PlaceIsThere s (if b then sc.place else value_or found sc.place)
    own true found k = h.place
    own false None k = h.place
    own false (Some place) k = k

-- ---- what names mean

last_there : {A : Type 0} {P : A → Type 0} (fits : A → Bool) (found : Option A) {xs : List A} → Where P found → Each P xs → Where P (fold (later fits) found xs)
last_there fits found h no_more = h
last_there {A} {P} fits found h (one_more {x = x} k ks) = last_there fits (later fits found x) (by (fits x)) ks
  where
    by : (b : Bool) → Where P (if b then Some x else found)
    by true = found_there k
    by false = h

variable_or : (s : Stores) (x : SymId) (o : Option (SymId × Target)) → Where (NameIsThere s) o → SymbolIsThere s x → TargetIsThere s (value_or (second o) (Global x))
variable_or s x None o h = h
variable_or s x (Some p) (found_there k) h = k

pub variable_there : (s : Stores) (sc : Scope) (x : SymId) → ScopeIsThere s sc → SymbolIsThere s x → TargetIsThere s (variable_at sc x)
unfolding variable_at
variable_there s sc x h k = variable_or s x _ (last_there (named x) None nothing_there h.variables) k

-- ---- declared types

module _ (s : Stores) (t : Target) where
  more_types : (found : List Spec) (b : Bool) (x : Spec) → Each (TypeIsThere s) found → TypeIsThere s x → Each (TypeIsThere s) (if b then found ++ x ∷ [] else found)
  more_types found true x h k = each_last x h k
  more_types found false x h k = h

  no_types : (found : List Spec) (b : Bool) → Each (TypeIsThere s) found → Each (TypeIsThere s) (if b then [] else found)
  no_types found true h = no_more
  no_types found false h = h

  one_set : (found : List Spec) (c : Check) → Each (TypeIsThere s) found → CheckIsThere s c → Each (TypeIsThere s) (and_set t found c)
  one_set found (of_binding u x) h k = more_types found (same_target t u) x h k
  one_set found (of_uses u x) h k = more_types found (same_target t u) x h k
  one_set found (rebound y) h k = no_types found (ends t y) h

  one_used : (found : List Spec) (c : Check) → Each (TypeIsThere s) found → CheckIsThere s c → Each (TypeIsThere s) (and_used t found c)
  one_used found (of_binding u x) h k = h
  one_used found (of_uses u x) h k = more_types found (same_target t u) x h k
  one_used found (rebound y) h k = no_types found (ends t y) h

  all_set : (found : List Spec) (cs : List Check) → Each (TypeIsThere s) found → Each (CheckIsThere s) cs → Each (TypeIsThere s) (fold (and_set t) found cs)
  all_set found [] h no_more = h
  all_set found (c ∷ cs) h (one_more k ks) = all_set (and_set t found c) cs (one_set found c h k) ks

  all_used : (found : List Spec) (cs : List Check) → Each (TypeIsThere s) found → Each (CheckIsThere s) cs → Each (TypeIsThere s) (fold (and_used t) found cs)
  all_used found [] h no_more = h
  all_used found (c ∷ cs) h (one_more k ks) = all_used (and_used t found c) cs (one_used found c h k) ks

  pub types_set_there : (sc : Scope) → ScopeIsThere s sc → Each (TypeIsThere s) (types_set sc t)
  unfolding types_set
  types_set_there sc h = all_set [] sc.checks no_more h.checks

  pub types_used_there : (sc : Scope) → ScopeIsThere s sc → Each (TypeIsThere s) (types_used sc t)
  unfolding types_used
  types_used_there sc h = all_used [] sc.checks no_more h.checks

-- ---- scopes that grow

module _ (s : Stores) where
  with_variable_there : (x : SymId) (t : Target) (cs : List Check) (sc : Scope) → ScopeIsThere s sc → TargetIsThere s t → Each (CheckIsThere s) cs →
      ScopeIsThere s (with_variable x t cs sc)
  with_variable_there x t cs sc h k l = record { place = h.place; variables = each_last _ h.variables k; checks = each_append h.checks l }

  pub with_function_there : (x : SymId) (n : ℕ) (sc : Scope) → ScopeIsThere s sc → ScopeIsThere s (with_function x n sc)
  with_function_there x n sc h = record { place = h.place; variables = h.variables; checks = h.checks }

  pub with_block_there : (x : SymId) (n : ℕ) (sc : Scope) → ScopeIsThere s sc → ScopeIsThere s (with_block x n sc)
  with_block_there x n sc h = record { place = h.place; variables = h.variables; checks = h.checks }

  with_tag_there : (v : Val) (n : ℕ) (sc : Scope) → ScopeIsThere s sc → ScopeIsThere s (with_tag v n sc)
  with_tag_there v n sc h = record { place = h.place; variables = h.variables; checks = h.checks }

  specials_there : (xs : List SymId) (sc : Scope) → ScopeIsThere s sc → Each (SymbolIsThere s) xs → ScopeIsThere s (fold with_special sc xs)
  specials_there [] sc h k = h
  specials_there (x ∷ xs) sc h (one_more k ks) = specials_there xs (with_special sc x) (with_variable_there x (Global x) [] sc h k no_more) ks

  types_there : (ts : List Typed) (sc : Scope) → ScopeIsThere s sc → Each (TypedIsThere s) ts → ScopeIsThere s (fold with_type sc ts)
  types_there [] sc h k = h
  types_there (t ∷ ts) sc h (one_more k ks) = types_there ts (with_type sc t) (record { place = h.place; variables = h.variables; checks = each_last _ h.checks k.1 }) ks

  pub declared_in_there : (d : Declared) (sc : Scope) → DeclaredAreThere s d → ScopeIsThere s sc → ScopeIsThere s (declared_in d sc)
  unfolding declared_in
  declared_in_there d sc h k =
      let whole = types_there d.types _ (specials_there d.specials sc k h.specials) h.types in
      record { place = whole.place; variables = whole.variables; checks = whole.checks }

  -- ---- variables that are bound

  pub record BoundIsThere (b : Bound) : Type 0 where
    pub binder : BinderIsThere s b.0
    pub parameter : ParameterIsThere s b.1

  target_there : (x : Variable) → Each (SymbolIsThere s) (variable_symbols x) → TargetIsThere s (target_of x)
  target_there (variable.Lexical n x) h = tt
  target_there (variable.Special x) (one_more h hs) = h

  checks_there : (t : Target) (ts : List Spec) → Each (TypeIsThere s) ts → Each (CheckIsThere s) (checks_for t ts)
  checks_there t ts h = each_mapped (of_binding t) (λ x k. k) h

  new_checks_there : (x : Variable) (ts : List Spec) → Each (TypeIsThere s) ts → Each (CheckIsThere s) (new_checks x ts)
  new_checks_there (variable.Lexical n x) ts h = checks_there _ ts h
  new_checks_there (variable.Special x) ts h = one_more tt (checks_there _ ts h)

  pub with_bound_there : (sc : Scope) (b : Bound) → ScopeIsThere s sc → BoundIsThere b → ScopeIsThere s (with_bound sc b)
  unfolding with_bound
  with_bound_there sc b h k =
      with_variable_there b.0.variable _ _ sc h (target_there b.1.variable k.parameter.names) (new_checks_there b.1.variable b.0.types k.binder.types)

  pub with_all_there : (sc : Scope) (bs : List Bound) → ScopeIsThere s sc → Each BoundIsThere bs → ScopeIsThere s (with_all sc bs)
  with_all_there sc [] h k = h
  with_all_there sc (b ∷ bs) h (one_more k ks) = with_all_there (with_bound sc b) bs (with_bound_there sc b h k) ks

  pub with_some_there : (sc : Scope) (b : Option Bound) → ScopeIsThere s sc → Where BoundIsThere b → ScopeIsThere s (with_some sc b)
  with_some_there sc None h k = h
  with_some_there sc (Some b) h (found_there k) = with_bound_there sc b h k

  -- ---- local functions and tags

  with_named_there : (o : Option SymId) (n : ℕ) (sc : Scope) → ScopeIsThere s sc → ScopeIsThere s (with_named o n sc)
  with_named_there None n sc h = h
  with_named_there (Some x) n sc h = with_function_there x n sc h

  pub with_definitions_there : (heap : List Object) (n : ℕ) (vs : List Val) (sc : Scope) → ScopeIsThere s sc → ScopeIsThere s (with_definitions heap n vs sc)
  with_definitions_there heap n [] sc h = h
  with_definitions_there heap n (v ∷ vs) sc h = with_definitions_there heap (suc n) vs (with_named (definition_name sc heap v) n sc) (with_named_there (definition_name sc heap v) n sc h)

  either_there : (b : Bool) (x y : Scope) → ScopeIsThere s x → ScopeIsThere s y → ScopeIsThere s (if b then x else y)
  either_there true x y h k = h
  either_there false x y h k = k

  pub with_tags_there : (n : ℕ) (vs : List Val) (sc : Scope) → ScopeIsThere s sc → ScopeIsThere s (with_tags n vs sc)
  with_tags_there n [] sc h = h
  with_tags_there n (v ∷ vs) sc h = either_there (is_tag v) _ _ (with_tags_there (suc n) vs _ (with_tag_there v n sc h)) (with_tags_there n vs sc h)
