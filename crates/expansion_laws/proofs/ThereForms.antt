-- What is to be done with a form that is there: plans of what is there, in a sound world that holds what it held.
use Rattle.std.specs.Prelude.{ℕ, Bool, List, [], ◌∷◌, Option, Some, None}
use Rattle.lisp_base.specs.declared.base_symbols.TheConstants as at
use Rattle.lisp_base.specs.declared.values.SymId.{SymId}
use Rattle.lisp_base.specs.declared.values.Val.{Val}
use Rattle.lisp_base.specs.declared.values.Val.TheVariants.{Int, Char, Sym, Ref}
use Rattle.lisp_base.specs.Membership.{is_symbol_number}
use Rattle.lisp_base.specs.Sort.{nil, number_of}
use Rattle.lisp_base.specs.Spec.{Spec}
use Rattle.lisp_forms.specs.Conses.{elements}
use Rattle.type_spec.specs.Parsing.{specifier}
use Rattle.declarations.specs.Declarations.{Declared}
use Rattle.expansion.specs.declared.kind.ExpandKind.TheVariants.{BadForm, BadType}
use Rattle.expansion.specs.declared.heads.Target.{Target}
use Rattle.expansion.specs.declared.heads.Target.TheVariants.{Lexical, Global}
use Rattle.expansion.specs.declared.heads.Reach.{Reach}
use Rattle.expansion.specs.Scopes.{Scope, block_at, tag_at}
use Rattle.expansion.specs.Steps.{World, ◌>>=◌, expect, look}
use Rattle.expansion.specs.Sketches.{Sketch, form, instead, makes}
use Rattle.expansion.specs.Bindings.{others, names}
use Rattle.expansion.specs.Forms.{is_constant_symbol, symbol_in, variable_in, makes_node, reference, use_of, setting, set_target, set_variable, quote_plan, lambda_in, named_function, lambda_plan, function_plan, settings, setq_plan, if_plan, progn_plan, binding_with, binding_at, bindings_among, bindings_in, let_plan, let_in_order_plan, functions_plan, locally_forms, locally_plan, type_in, the_plan, block_plan, return_plan, return_from_plan, are_items, tagbody_plan, go_plan, catch_plan, throw_plan, unwind_plan, values_call_plan, keeping_plan, values_plan, funcall_plan, apply_plan, quoted_in, typep_plan}
use Rattle.expansion_laws.specs.There.{Stores, stores_of, SymbolIsThere, IsThere, TypeIsThere, AreSound, TargetIsThere}
use Rattle.expansion_laws.proofs.ThereLists.{Each, no_more, one_more, Where, nothing_there, found_there, where_then, where_map, where_if, where_all, each_map, each_append}
use Rattle.expansion_laws.proofs.ThereStores.{ValuesAreThere, value_stays, values_stay, symbol_of_there, nil_there, cons_there, elements_there}
use Rattle.expansion_laws.proofs.ThereTypes.{specifier_lawful}
use Rattle.expansion_laws.proofs.ThereReading.{DeclaredAreThere, NamedValueIsThere}
use Rattle.expansion_laws.proofs.ThereKeys.{named_value_stays}
use Rattle.expansion_laws.proofs.ThereSteps.{IsInOrder, Later, Safe, pure_safe, look_safe, refuse_safe, expect_safe, given_safe, only_safe, then_safe, next_safe}
use Rattle.expansion_laws.proofs.ThereSketches.{SketchIsThere, a_form, a_leaf, a_unary, a_binary, a_choice, a_many, a_calling, an_assign, a_function, the_functions, a_block, a_tagbody, a_within, the_sketches, the_forms, a_constant, a_progn, a_body, a_checked, PlanIsThere, another_form, a_declared, a_sketch}
use Rattle.expansion_laws.proofs.ThereScopes.{ScopeIsThere, scope_stays, variable_there, types_set_there, types_used_there}
use Rattle.expansion_laws.proofs.ThereBindings.{found_safe, types_of_there, others_there, let_there, let_in_order_there, contents_safe, function_safe}
use Rattle.expansion_laws.proofs.ThereCalls.{few_safe}

-- a world in order, and a scope that is there in it
pub record Here (w : World) (sc : Scope) : Type 0 where
  pub order : IsInOrder w
  pub scope : ScopeIsThere (stores_of w) sc

pub here_on : {w u : World} {sc : Scope} → Later w u → Here w sc → Here u sc
here_on {sc = sc} l h = record { order = l.order; scope = scope_stays l.grown sc h.scope }

pub here_sound : {w : World} {sc : Scope} → Here w sc → AreSound (stores_of w)
here_sound h = h.order.sound

-- the plan of a node
pub makes_safe : (x : Sketch) {w : World} → IsInOrder w → SketchIsThere (stores_of w) x → Safe w PlanIsThere (makes_node x w)
unfolding makes_node
makes_safe x o h = pure_safe (makes x) o (a_sketch h)

-- the elements of a list
pub elements_safe : (sc : Scope) (v : Val) {w : World} → IsInOrder w → IsThere (stores_of w) v → Safe w ValuesAreThere ((look (λ w. elements w.heap v) >>= expect sc) w)
elements_safe sc v {w} o h = found_safe ValuesAreThere sc (λ w. elements w.heap v) o (elements_there (stores_of w) v h)

-- ---- variables

module _ (s : Stores) where
  pub symbol_in_there : (v : Val) → IsThere s v → Where (SymbolIsThere s) (symbol_in v)
  symbol_in_there (Int z) h = nothing_there
  symbol_in_there (Char c) h = nothing_there
  symbol_in_there (Sym x) h = found_there (symbol_of_there x h)
  symbol_in_there (Ref o) h = nothing_there

  pub variable_in_there : (v : Val) → IsThere s v → Where (SymbolIsThere s) (variable_in s.table v)
  variable_in_there v h = where_then _ (symbol_in_there v h) (λ x k. where_if (is_constant_symbol s.table x) _ _ nothing_there (found_there k))

  reference_there : (t : Target) → TargetIsThere s t → SketchIsThere s (reference t)
  reference_there (Lexical n) h = a_leaf tt
  reference_there (Global x) h = a_leaf h

  pub use_there : (sc : Scope) (t : Target) → ScopeIsThere s sc → TargetIsThere s t → SketchIsThere s (use_of sc t)
  use_there sc t h k = a_checked _ _ (types_used_there s t sc h) (reference_there t k)

  setting_there : (t : Target) {x : Sketch} → TargetIsThere s t → SketchIsThere s x → SketchIsThere s (setting t x)
  setting_there (Lexical n) h k = a_unary tt k
  setting_there (Global x) h k = a_unary h k

pub set_target_there : (sc : Scope) (t : Target) (y : SymId) (x : Sketch) (w : World) → Here w sc → TargetIsThere (stores_of w) t → SketchIsThere (stores_of w) x →
    SketchIsThere (stores_of w) (set_target sc t y x w)
set_target_there sc t y x w here h k =
    setting_there (stores_of w) t h (a_checked _ x (each_append (types_of_there (stores_of w) y here.order.types) (types_set_there (stores_of w) t sc here.scope)) k)

pub set_variable_there : (sc : Scope) (x : SymId) (v : Val) (w : World) → Here w sc → SymbolIsThere (stores_of w) x → IsThere (stores_of w) v →
    SketchIsThere (stores_of w) (set_variable sc x v w)
unfolding set_variable
set_variable_there sc x v w here h k = set_target_there sc _ x (form v) w here (variable_there (stores_of w) sc x here.scope h) (a_form k)

-- ---- operators by their arguments

module _ (sc : Scope) where
  pub quote_safe : (vs : List Val) {w : World} → Here w sc → ValuesAreThere (stores_of w) vs → Safe w PlanIsThere (quote_plan sc vs w)
  unfolding quote_plan
  quote_safe [] here h = refuse_safe BadForm sc
  quote_safe (v ∷ []) here (one_more h hs) = makes_safe _ here.order (a_constant h)
  quote_safe (v ∷ x ∷ xs) here h = refuse_safe BadForm sc

  pub lambda_in_there : (s : Stores) (v : Val) → IsThere s v → Where (IsThere s) (lambda_in s.heap v)
  lambda_in_there s v h = where_then _ (cons_there s v h) (λ p k. where_if (is_symbol_number (number_of at.LAMBDA) p.0) _ _ (found_there k.1) nothing_there)

  lambda_safe : (m : Option Val) {w : World} → Here w sc → Where (IsThere (stores_of w)) m → Safe w PlanIsThere (lambda_plan sc m w)
  unfolding lambda_plan
  lambda_safe None here h = refuse_safe BadForm sc
  lambda_safe (Some v) here (found_there h) = then_safe _ _ (function_safe sc None v here.order h nothing_there) (λ f u l k. makes_safe _ l.order (a_function k))

  named_function_there : (s : Stores) (o : Option ℕ) (x : SymId) → SymbolIsThere s x → SketchIsThere s (named_function o x)
  named_function_there s None x h = a_leaf h
  named_function_there s (Some f) x h = a_leaf tt

  pub function_plan_safe : (vs : List Val) {w : World} → Here w sc → ValuesAreThere (stores_of w) vs → Safe w PlanIsThere (function_plan sc vs w)
  unfolding function_plan
  function_plan_safe [] here h = refuse_safe BadForm sc
  function_plan_safe (Int z ∷ []) here h = refuse_safe BadForm sc
  function_plan_safe (Char c ∷ []) here h = refuse_safe BadForm sc
  function_plan_safe (Sym x ∷ []) {w} here (one_more h hs) = makes_safe _ here.order (named_function_there (stores_of w) _ x (symbol_of_there x h))
  function_plan_safe (Ref o ∷ []) {w} here (one_more h hs) =
      then_safe _ _ (look_safe {P = λ (s : Stores) (m : Option Val). Where (IsThere s) m} (λ w. lambda_in w.heap (Ref o)) here.order (lambda_in_there (stores_of w) (Ref o) h)) (λ m u l k. lambda_safe m (here_on l here) k)
  function_plan_safe (Int z ∷ x ∷ xs) here h = refuse_safe BadForm sc
  function_plan_safe (Char c ∷ x ∷ xs) here h = refuse_safe BadForm sc
  function_plan_safe (Sym y ∷ x ∷ xs) here h = refuse_safe BadForm sc
  function_plan_safe (Ref o ∷ x ∷ xs) here h = refuse_safe BadForm sc

  settings_there : (s : Stores) (vs : List Val) → ValuesAreThere s vs → Where (Each (SketchIsThere s)) (settings s.table vs)
  settings_there s [] h = found_there no_more
  settings_there s (v ∷ []) h = nothing_there
  settings_there s (v ∷ e ∷ others) (one_more h (one_more k ks)) =
      where_then _ (variable_in_there s v h) (λ x i. where_map _ (settings_there s others ks) (λ xs j. one_more (an_assign i k) j))

  abbrev SketchList : Stores → List Sketch → Type 0
  SketchList s xs = Each (SketchIsThere s) xs

  pub setq_safe : (vs : List Val) {w : World} → Here w sc → ValuesAreThere (stores_of w) vs → Safe w PlanIsThere (setq_plan sc vs w)
  unfolding setq_plan
  setq_safe vs {w} here h = then_safe _ _ (found_safe SketchList sc (λ w. settings w.table vs) here.order (settings_there (stores_of w) vs h)) (λ xs u l k. makes_safe _ l.order (a_progn xs l.order.sound k))

  pub if_safe : (vs : List Val) {w : World} → Here w sc → ValuesAreThere (stores_of w) vs → Safe w PlanIsThere (if_plan sc vs w)
  unfolding if_plan
  if_safe [] here h = refuse_safe BadForm sc
  if_safe (a ∷ []) here h = refuse_safe BadForm sc
  if_safe (a ∷ b ∷ []) here (one_more h (one_more k ks)) = makes_safe _ here.order (a_choice (a_form h) (a_form k) (a_constant (nil_there (here_sound here))))
  if_safe (a ∷ b ∷ c ∷ []) here (one_more h (one_more k (one_more l ls))) = makes_safe _ here.order (a_choice (a_form h) (a_form k) (a_form l))
  if_safe (a ∷ b ∷ c ∷ d ∷ ds) here h = refuse_safe BadForm sc

  pub progn_safe : (vs : List Val) {w : World} → Here w sc → ValuesAreThere (stores_of w) vs → Safe w PlanIsThere (progn_plan sc vs w)
  unfolding progn_plan
  progn_safe [] here h = makes_safe _ here.order (a_body [] (here_sound here) h)
  progn_safe (v ∷ []) here (one_more h hs) = pure_safe (instead v) here.order (another_form h)
  progn_safe (v ∷ x ∷ xs) here h = makes_safe _ here.order (a_body (v ∷ x ∷ xs) (here_sound here) h)

  binding_there : (s : Stores) (vs : List Val) → AreSound s → ValuesAreThere s vs → Where (NamedValueIsThere s) (binding_with s.table vs)
  binding_there s [] sound h = nothing_there
  binding_there s (v ∷ []) sound (one_more h hs) = where_map _ (variable_in_there s v h) (λ x k. (k, nil_there sound))
  binding_there s (v ∷ e ∷ []) sound (one_more h (one_more k ks)) = where_map _ (variable_in_there s v h) (λ x i. (i, k))
  binding_there s (v ∷ e ∷ x ∷ xs) sound h = nothing_there

  binding_at_there : (s : Stores) (v : Val) → AreSound s → IsThere s v → Where (NamedValueIsThere s) (binding_at s.heap s.table v)
  binding_at_there s (Int z) sound h = nothing_there
  binding_at_there s (Char c) sound h = nothing_there
  binding_at_there s (Sym x) sound h = binding_there s (Sym x ∷ []) sound (one_more h no_more)
  binding_at_there s (Ref o) sound h = where_then _ (elements_there s (Ref o) h) (λ vs k. binding_there s vs sound k)

  abbrev NamedValues : Stores → List (SymId × Val) → Type 0
  NamedValues s bs = Each (NamedValueIsThere s) bs

  bindings_there : (s : Stores) (vs : List Val) → AreSound s → ValuesAreThere s vs → Where (NamedValues s) (bindings_among s.heap s.table vs)
  bindings_there s [] sound h = found_there no_more
  bindings_there s (v ∷ vs) sound (one_more h hs) =
      where_then _ (binding_at_there s v sound h) (λ b k. where_map _ (bindings_there s vs sound hs) (λ bs i. one_more k i))

  bindings_safe : (v : Val) {w : World} → Here w sc → IsThere (stores_of w) v → Safe w NamedValues ((look (λ w. bindings_in w v) >>= expect sc) w)
  unfolding bindings_in
  bindings_safe v {w} here h =
      found_safe NamedValues sc (λ w. bindings_in w v) here.order (where_then _ (elements_there (stores_of w) v h) (λ vs k. bindings_there (stores_of w) vs (here_sound here) k))

  pub let_safe : (vs : List Val) {w : World} → Here w sc → ValuesAreThere (stores_of w) vs → Safe w PlanIsThere (let_plan sc vs w)
  unfolding let_plan
  let_safe [] here h = refuse_safe BadForm sc
  let_safe (bs ∷ vs) here (one_more h hs) =
      then_safe _ _ (bindings_safe bs here h) (λ ps u l k. then_safe _ _ (contents_safe sc vs l.order (values_stay l.grown hs)) (λ c x m i.
      makes_safe _ m.order (let_there _ c.declared ps _ i.declared (each_map (named_value_stays m.grown) k) (a_body c.forms m.order.sound i.forms))))

  pub let_in_order_safe : (vs : List Val) {w : World} → Here w sc → ValuesAreThere (stores_of w) vs → Safe w PlanIsThere (let_in_order_plan sc vs w)
  unfolding let_in_order_plan
  let_in_order_safe [] here h = refuse_safe BadForm sc
  let_in_order_safe (bs ∷ vs) here (one_more h hs) =
      then_safe _ _ (bindings_safe bs here h) (λ ps u l k. then_safe _ _ (contents_safe sc vs l.order (values_stay l.grown hs)) (λ c x m i.
      makes_safe _ m.order (let_in_order_there _ c.declared ps _ i.declared (each_map (named_value_stays m.grown) k) (a_within (others_there _ (names ps) c.declared i.declared) (a_body c.forms m.order.sound i.forms)))))

  pub functions_safe : (reach : Reach) (vs : List Val) {w : World} → Here w sc → ValuesAreThere (stores_of w) vs → Safe w PlanIsThere (functions_plan reach sc vs w)
  unfolding functions_plan
  functions_safe reach [] here h = refuse_safe BadForm sc
  functions_safe reach (ds ∷ vs) here (one_more h hs) =
      then_safe _ _ (elements_safe sc ds here.order h) (λ xs u l k. then_safe _ _ (contents_safe sc vs l.order (values_stay l.grown hs)) (λ c x m i.
      makes_safe _ m.order (the_functions (values_stay m.grown k) (a_within i.declared (a_body c.forms m.order.sound i.forms)))))

  locally_forms_safe : (d : Declared) (vs : List Val) {w : World} → Here w sc → DeclaredAreThere (stores_of w) d → ValuesAreThere (stores_of w) vs →
      Safe w PlanIsThere (locally_forms d vs w)
  unfolding locally_forms
  locally_forms_safe d [] here h k = makes_safe _ here.order (a_within h (a_body [] (here_sound here) k))
  locally_forms_safe d (v ∷ []) here h (one_more k ks) = pure_safe _ here.order (a_declared h k)
  locally_forms_safe d (v ∷ x ∷ xs) here h k = makes_safe _ here.order (a_within h (a_body (v ∷ x ∷ xs) (here_sound here) k))

  pub locally_safe : (vs : List Val) {w : World} → Here w sc → ValuesAreThere (stores_of w) vs → Safe w PlanIsThere (locally_plan sc vs w)
  unfolding locally_plan
  locally_safe vs here h = then_safe _ _ (contents_safe sc vs here.order h) (λ c u l k. locally_forms_safe c.declared c.forms (here_on l here) k.declared k.forms)

  type_safe : (v : Val) {w : World} → IsInOrder w → Safe w TypeIsThere (type_in sc v w)
  unfolding type_in
  type_safe v {w} o =
      then_safe _ _ (look_safe {P = λ (s : Stores) (m : Option Spec). Where (TypeIsThere s) m} (λ w. specifier w.heap w.table v) o (specifier_lawful w.heap w.table v)) (λ m u l k. given_safe BadType sc m l.order k)

  pub the_safe : (vs : List Val) {w : World} → Here w sc → ValuesAreThere (stores_of w) vs → Safe w PlanIsThere (the_plan sc vs w)
  unfolding the_plan
  the_safe [] here h = refuse_safe BadForm sc
  the_safe (t ∷ []) here h = refuse_safe BadForm sc
  the_safe (t ∷ v ∷ []) here (one_more h (one_more k ks)) = then_safe _ _ (type_safe t here.order) (λ x u l i. makes_safe _ l.order (a_unary i (a_form (value_stays l.grown v k))))
  the_safe (t ∷ v ∷ x ∷ xs) here h = refuse_safe BadForm sc

  -- a symbol that is given
  symbol_safe : (v : Val) {w : World} → IsInOrder w → IsThere (stores_of w) v → Safe w SymbolIsThere (expect sc (symbol_in v) w)
  symbol_safe v {w} o h = expect_safe sc _ o (symbol_in_there (stores_of w) v h)

  number_found : (m : Option ℕ) {w : World} → IsInOrder w → Safe w (λ (s : Stores) (n : ℕ). Unit {0}) (expect sc m w)
  number_found m o = expect_safe sc m o (where_all (λ n. tt) m)

  pub block_safe : (vs : List Val) {w : World} → Here w sc → ValuesAreThere (stores_of w) vs → Safe w PlanIsThere (block_plan sc vs w)
  unfolding block_plan
  block_safe [] here h = refuse_safe BadForm sc
  block_safe (x ∷ vs) here (one_more h hs) = then_safe _ _ (symbol_safe x here.order h) (λ b u l k. makes_safe _ l.order (a_block k (a_body vs l.order.sound (values_stay l.grown hs))))

  return_safe : (x : SymId) (v : Val) {w : World} → Here w sc → IsThere (stores_of w) v → Safe w PlanIsThere (return_plan sc x v w)
  unfolding return_plan
  return_safe x v here h = then_safe _ _ (number_found (block_at sc x) here.order) (λ b u l k. makes_safe _ l.order (a_unary tt (a_form (value_stays l.grown v h))))

  pub return_from_safe : (vs : List Val) {w : World} → Here w sc → ValuesAreThere (stores_of w) vs → Safe w PlanIsThere (return_from_plan sc vs w)
  unfolding return_from_plan
  return_from_safe [] here h = refuse_safe BadForm sc
  return_from_safe (x ∷ []) here (one_more h hs) = then_safe _ _ (symbol_safe x here.order h) (λ b u l k. return_safe b nil (here_on l here) (nil_there l.order.sound))
  return_from_safe (x ∷ v ∷ []) here (one_more h (one_more k ks)) = then_safe _ _ (symbol_safe x here.order h) (λ b u l i. return_safe b v (here_on l here) (value_stays l.grown v k))
  return_from_safe (x ∷ v ∷ y ∷ ys) here h = refuse_safe BadForm sc

  pub tagbody_safe : (vs : List Val) {w : World} → Here w sc → ValuesAreThere (stores_of w) vs → Safe w PlanIsThere (tagbody_plan sc vs w)
  unfolding tagbody_plan
  tagbody_safe vs here h =
      next_safe _ _ (then_safe _ _ (look_safe {P = λ (s : Stores) (b : Bool). Unit {0}} (λ w. are_items w.heap vs) here.order tt) (λ b u l k. only_safe sc b l.order))
      (λ a u l k. makes_safe _ l.order (a_tagbody (values_stay l.grown h)))

  pub go_safe : (vs : List Val) {w : World} → Here w sc → ValuesAreThere (stores_of w) vs → Safe w PlanIsThere (go_plan sc vs w)
  unfolding go_plan
  go_safe [] here h = refuse_safe BadForm sc
  go_safe (t ∷ []) here h = then_safe _ _ (number_found (tag_at sc t) here.order) (λ n u l k. makes_safe _ l.order (a_leaf tt))
  go_safe (t ∷ x ∷ xs) here h = refuse_safe BadForm sc

  pub catch_safe : (vs : List Val) {w : World} → Here w sc → ValuesAreThere (stores_of w) vs → Safe w PlanIsThere (catch_plan sc vs w)
  unfolding catch_plan
  catch_safe [] here h = refuse_safe BadForm sc
  catch_safe (t ∷ vs) here (one_more h hs) = makes_safe _ here.order (a_binary (a_form h) (a_body vs (here_sound here) hs))

  pub throw_safe : (vs : List Val) {w : World} → Here w sc → ValuesAreThere (stores_of w) vs → Safe w PlanIsThere (throw_plan sc vs w)
  unfolding throw_plan
  throw_safe [] here h = refuse_safe BadForm sc
  throw_safe (t ∷ []) here h = refuse_safe BadForm sc
  throw_safe (t ∷ v ∷ []) here (one_more h (one_more k ks)) = makes_safe _ here.order (a_binary (a_form h) (a_form k))
  throw_safe (t ∷ v ∷ x ∷ xs) here h = refuse_safe BadForm sc

  pub unwind_safe : (vs : List Val) {w : World} → Here w sc → ValuesAreThere (stores_of w) vs → Safe w PlanIsThere (unwind_plan sc vs w)
  unfolding unwind_plan
  unwind_safe [] here h = refuse_safe BadForm sc
  unwind_safe (v ∷ vs) here (one_more h hs) = makes_safe _ here.order (a_binary (a_form h) (a_body vs (here_sound here) hs))

  pub values_call_safe : (vs : List Val) {w : World} → Here w sc → ValuesAreThere (stores_of w) vs → Safe w PlanIsThere (values_call_plan sc vs w)
  unfolding values_call_plan
  values_call_safe [] here h = refuse_safe BadForm sc
  values_call_safe (f ∷ vs) here (one_more h hs) = makes_safe _ here.order (a_calling (a_form h) (the_sketches (the_forms hs)))

  pub keeping_safe : (vs : List Val) {w : World} → Here w sc → ValuesAreThere (stores_of w) vs → Safe w PlanIsThere (keeping_plan sc vs w)
  unfolding keeping_plan
  keeping_safe [] here h = refuse_safe BadForm sc
  keeping_safe (v ∷ vs) here (one_more h hs) = makes_safe _ here.order (a_binary (a_form h) (a_body vs (here_sound here) hs))

  pub values_safe : (vs : List Val) {w : World} → Here w sc → ValuesAreThere (stores_of w) vs → Safe w PlanIsThere (values_plan sc vs w)
  unfolding values_plan
  values_safe vs here h = next_safe _ _ (only_safe sc _ here.order) (λ a u l k. makes_safe _ l.order (a_many tt (the_sketches (the_forms (values_stay l.grown h)))))

  pub funcall_safe : (vs : List Val) {w : World} → Here w sc → ValuesAreThere (stores_of w) vs → Safe w PlanIsThere (funcall_plan sc vs w)
  unfolding funcall_plan
  funcall_safe [] here h = refuse_safe BadForm sc
  funcall_safe (f ∷ vs) here (one_more h hs) =
      next_safe _ _ (few_safe sc vs here.order) (λ a u l k. makes_safe _ l.order (a_calling (a_form (value_stays l.grown f h)) (the_sketches (the_forms (values_stay l.grown hs)))))

  pub apply_safe : (vs : List Val) {w : World} → Here w sc → ValuesAreThere (stores_of w) vs → Safe w PlanIsThere (apply_plan sc vs w)
  unfolding apply_plan
  apply_safe [] here h = refuse_safe BadForm sc
  apply_safe (f ∷ []) here h = refuse_safe BadForm sc
  apply_safe (f ∷ v ∷ vs) here (one_more h hs) =
      next_safe _ _ (few_safe sc (v ∷ vs) here.order) (λ a u l k. makes_safe _ l.order (a_calling (a_form (value_stays l.grown f h)) (the_sketches (the_forms (values_stay l.grown hs)))))

  pub typep_safe : (vs : List Val) {w : World} → Here w sc → ValuesAreThere (stores_of w) vs → Safe w PlanIsThere (typep_plan sc vs w)
  unfolding typep_plan
  typep_safe [] here h = refuse_safe BadForm sc
  typep_safe (v ∷ []) here h = refuse_safe BadForm sc
  typep_safe (v ∷ t ∷ []) here (one_more h hs) =
      then_safe _ _ (then_safe _ _ (found_safe (λ (s : Stores) (x : Val). Unit {0}) sc (λ w. quoted_in w.heap t) here.order (where_all (λ x. tt) _)) (λ x u l k. type_safe x l.order))
      (λ x u l k. makes_safe _ l.order (a_unary k (a_form (value_stays l.grown v h))))
  typep_safe (v ∷ t ∷ x ∷ xs) here h = refuse_safe BadForm sc
