-- What is to be done with a form that is there: definitions, macros, calls, and all forms.
use Rattle.std.specs.Prelude.{◌≡◌, refl, ℕ, Bool, true, false, ◌&&◌, not, ◌==◌, List, [], ◌∷◌, Option, Some, None, if◌then◌else◌}
use Rattle.lisp_base.specs.declared.base_symbols.TheConstants as at
use Rattle.lisp_base.specs.declared.primitives.Primitive.TheVariants as q
use Rattle.lisp_base.specs.declared.values.SymId.{SymId}
use Rattle.lisp_base.specs.declared.values.Val.{Val}
use Rattle.lisp_base.specs.declared.values.Val.TheVariants.{Int, Char, Sym, Ref}
use Rattle.lisp_base.specs.Sort.{number_of}
use Rattle.lisp_forms.specs.Conses.{cons_at, elements}
use Rattle.declarations.specs.Bodies.{is_string}
use Rattle.declarations.specs.Declarations.{Declared, read_specifiers}
use Rattle.lambda_lists.specs.LambdaLists.{Default, LambdaList, make_list}
use Rattle.std_macros.specs.Expanding.{Expanded, gives as makes_form, bad, full, expanded_form, macro_of_form}
use Rattle.expansion.specs.declared.kind.ExpandKind.TheVariants.{BadForm, UnknownOperator, TooManySymbols}
use Rattle.expansion.specs.declared.operator.Operator.{Operator}
use Rattle.expansion.specs.declared.operator.Operator.TheVariants as op
use Rattle.expansion.specs.declared.heads.Target.TheVariants.{Global}
use Rattle.expansion.specs.declared.heads.Reach.TheVariants.{ForBody, ForAll}
use Rattle.expansion.specs.Operators.{operator_of, is_left_out, is_reserved}
use Rattle.expansion.specs.Scopes.{Scope, variable_at, function_at}
use Rattle.expansion.specs.Steps.{World, ◌>>=◌, ◌>>◌, refuse, expect, look, change}
use Rattle.expansion.specs.Sketches.{Sketch, form, Function}
use Rattle.expansion.specs.Calls.{global_call, calls_local, few}
use Rattle.expansion.specs.Forms.{is_constant_symbol, variable_in, lambda_in, definable, definition, tail_of, defun_plan, with_proclaimed, value_among, global_set, and_name, unless_bound, defvar_plan, defparameter_plan, with_declaimed, declaim_plan, name_written, names_package, in_package_plan, operator_plan, operated, expansion_or, macro_plan, called, global_plan, is_macro, named_plan, only_required, paired, bindings_of_lambda, lambda_bindings, lambda_call, is_given, lambda_plan_of, symbol_plan, list_plan, plan_of}
use Rattle.expansion_laws.specs.There.{Stores, stores, stores_of, SymbolIsThere, IsThere, AreSound, Grown}
use Rattle.expansion_laws.proofs.ThereLists.{Each, no_more, one_more, Where, nothing_there, found_there, where_then, where_map, where_if, each_map, each_append, each_last}
use Rattle.expansion_laws.proofs.ThereStores.{PairIsThere, ValuesAreThere, grown_same, grown_on, value_stays, values_stay, symbol_stays, symbol_there, symbol_of_there, nil_there, cons_there, elements_there}
use Rattle.expansion_laws.proofs.ThereReading.{DeclaredAreThere, specifiers_read, WhereDeclared, NamedValueIsThere, LambdaListIsThere, lambda_list_there}
use Rattle.expansion_laws.proofs.ThereKeys.{named_value_stays}
use Rattle.expansion_laws.proofs.ThereMacros.{WhereExpanded, is_expanded, expanded_there}
use Rattle.expansion_laws.proofs.ThereSteps.{IsInOrder, Safe, goes, Nothing, look_safe, refuse_safe, expect_safe, only_safe, then_safe, next_safe}
use Rattle.expansion_laws.proofs.ThereSketches.{SketchIsThere, a_form, a_unary, a_choice, a_many, a_calling, a_recursive, FunctionIsThere, the_sketches, the_forms, a_constant, a_progn, a_body, a_primitive, PlanIsThere, another_form}
use Rattle.expansion_laws.proofs.ThereScopes.{variable_there}
use Rattle.expansion_laws.proofs.ThereBindings.{found_safe, later_stores, let_there, declared_safe, contents_safe, function_safe}
use Rattle.expansion_laws.proofs.ThereCalls.{a_global_call, a_local_call, few_safe}
use Rattle.expansion_laws.proofs.ThereForms.{Here, here_on, makes_safe, elements_safe, symbol_in_there, variable_in_there, use_there, set_target_there, quote_safe, lambda_in_there, function_plan_safe, setq_safe, if_safe, progn_safe, let_safe, let_in_order_safe, functions_safe, locally_safe, the_safe, block_safe, return_from_safe, tagbody_safe, go_safe, catch_safe, throw_safe, unwind_safe, values_call_safe, keeping_safe, values_safe, funcall_safe, apply_safe, typep_safe}

-- a world that is changed in its proclamations
changed_safe : {w : World} (f : World → World) → IsInOrder (f w) → Grown (stores_of w) (stores_of (f w)) → Safe w Nothing (change f w)
unfolding change
changed_safe f o g = goes (record { order = o; grown = g }) tt

abbrev NamedValues : Stores → List (SymId × Val) → Type 0
NamedValues s bs = Each (NamedValueIsThere s) bs

module _ (sc : Scope) where
  -- ---- definitions and declarations of the whole file

  pub definable_there : (s : Stores) (v : Val) → IsThere s v → Where (SymbolIsThere s) (definable sc v)
  definable_there s v h = where_then _ (symbol_in_there s v h) (λ x k. where_if (is_reserved x && not sc.is_fixed) _ _ nothing_there (found_there k))

  definition_there : (s : Stores) (x : SymId) (f : Function) → SymbolIsThere s x → FunctionIsThere s f → SketchIsThere s (definition x f)
  unfolding definition
  definition_there s x f h k = a_many tt (the_sketches (one_more (a_unary h (a_recursive h k)) (one_more (a_constant (symbol_there x h)) no_more)))

  pub tail_there : (s : Stores) (v : Val) → AreSound s → IsThere s v → IsThere s (tail_of s.heap v)
  tail_there s v sound h = by (cons_at s.heap v) refl (cons_there s v h)
    where
      by : (o : Option (Val × Val)) → cons_at s.heap v ≡ o → Where (PairIsThere s) o → IsThere s (tail_of s.heap v)
      by None e k = rw e (nil_there sound)
      by (Some p) e (found_there k) = rw e k.1

  defun_safe : (arguments : Val) (vs : List Val) {w : World} → Here w sc → IsThere (stores_of w) arguments → ValuesAreThere (stores_of w) vs →
      Safe w PlanIsThere (defun_plan sc arguments vs w)
  unfolding defun_plan
  defun_safe arguments [] here i h = refuse_safe BadForm sc
  defun_safe arguments (n ∷ vs) {w} here i (one_more h hs) =
      then_safe _ _ (expect_safe {P = SymbolIsThere} sc _ here.order (definable_there (stores_of w) n h)) (λ x u l k.
      then_safe _ _ (then_safe _ _ (look_safe {P = IsThere} (λ w. tail_of w.heap arguments) l.order (tail_there (stores_of u) arguments l.order.sound (value_stays l.grown arguments i))) (λ v y m j. function_safe sc (Some x) v m.order j (found_there (symbol_stays m.grown x k))))
      (λ f y m j. makes_safe _ m.order (definition_there (stores_of y) x f (symbol_stays m.grown x k) j)))

  value_among_there : (s : Stores) (vs : List Val) → ValuesAreThere s vs → Where (IsThere s) (value_among s.heap vs)
  value_among_there s [] h = nothing_there
  value_among_there s (v ∷ []) (one_more h hs) = found_there h
  value_among_there s (v ∷ d ∷ []) (one_more h hs) = where_if (is_string s.heap d) _ _ (found_there h) nothing_there
  value_among_there s (v ∷ d ∷ x ∷ xs) h = nothing_there

  proclaimed_safe : (x : SymId) {w : World} → IsInOrder w → SymbolIsThere (stores_of w) x → Safe w Nothing (change (with_proclaimed x) w)
  proclaimed_safe x {w} o h = changed_safe (with_proclaimed x) (record { sound = o.sound; specials = each_last x o.specials h; types = o.types }) (grown_same (stores_of w))

  global_set_there : (x : SymId) (v : Val) (w : World) → Here w sc → SymbolIsThere (stores_of w) x → IsThere (stores_of w) v → SketchIsThere (stores_of w) (global_set sc x v w)
  unfolding global_set
  global_set_there x v w here h k = set_target_there sc (Global x) x (form v) w here h (a_form k)

  and_name_there : (s : Stores) (x : SymId) {y : Sketch} → AreSound s → SymbolIsThere s x → SketchIsThere s y → SketchIsThere s (and_name x y)
  and_name_there s x sound h k = a_progn _ sound (one_more k (one_more (a_constant (symbol_there x h)) no_more))

  unless_bound_there : (s : Stores) (x : SymId) {y : Sketch} → AreSound s → SymbolIsThere s x → SketchIsThere s y → SketchIsThere s (unless_bound x y)
  unfolding unless_bound
  unless_bound_there s x sound h k = a_choice (a_primitive q.Boundp (one_more (a_constant (symbol_there x h)) no_more)) (a_constant (nil_there sound)) k

  variable_safe : (v : Val) {w : World} → IsInOrder w → IsThere (stores_of w) v → Safe w SymbolIsThere ((look (λ w. variable_in w.table v) >>= expect sc) w)
  variable_safe v {w} o h = found_safe SymbolIsThere sc (λ w. variable_in w.table v) o (variable_in_there (stores_of w) v h)

  value_safe : (vs : List Val) {w : World} → IsInOrder w → ValuesAreThere (stores_of w) vs → Safe w IsThere ((look (λ w. value_among w.heap vs) >>= expect sc) w)
  value_safe vs {w} o h = found_safe IsThere sc (λ w. value_among w.heap vs) o (value_among_there (stores_of w) vs h)

  -- a variable is proclaimed, and takes a value
  set_safe : (x : SymId) (v : Val) {w : World} → Here w sc → SymbolIsThere (stores_of w) x → IsThere (stores_of w) v →
      Safe w SketchIsThere ((change (with_proclaimed x) >> look (global_set sc x v)) w)
  set_safe x v here h k =
      next_safe _ _ (proclaimed_safe x here.order h) (λ a u l i. look_safe {P = SketchIsThere} (global_set sc x v) l.order (global_set_there x v u (here_on l here) (symbol_stays l.grown x h) (value_stays l.grown v k)))

  defvar_safe : (vs : List Val) {w : World} → Here w sc → ValuesAreThere (stores_of w) vs → Safe w PlanIsThere (defvar_plan sc vs w)
  unfolding defvar_plan
  defvar_safe [] here h = refuse_safe BadForm sc
  defvar_safe (n ∷ []) here (one_more h hs) =
      then_safe _ _ (variable_safe n here.order h) (λ x u l k. next_safe _ _ (proclaimed_safe x l.order k) (λ a y m i. makes_safe _ m.order (a_constant (symbol_there x (symbol_stays m.grown x k)))))
  defvar_safe (n ∷ v ∷ vs) here (one_more h hs) =
      then_safe _ _ (variable_safe n here.order h) (λ x u l k.
      then_safe _ _ (value_safe (v ∷ vs) l.order (values_stay l.grown hs)) (λ e y m i.
      then_safe _ _ (set_safe x e (here_on m (here_on l here)) (symbol_stays m.grown x k) i) (λ z t r j.
      let known = symbol_stays r.grown x (symbol_stays m.grown x k) in
      makes_safe _ r.order (and_name_there _ x r.order.sound known (unless_bound_there _ x r.order.sound known j)))))

  defparameter_safe : (vs : List Val) {w : World} → Here w sc → ValuesAreThere (stores_of w) vs → Safe w PlanIsThere (defparameter_plan sc vs w)
  unfolding defparameter_plan
  defparameter_safe [] here h = refuse_safe BadForm sc
  defparameter_safe (n ∷ vs) here (one_more h hs) =
      then_safe _ _ (variable_safe n here.order h) (λ x u l k.
      then_safe _ _ (value_safe vs l.order (values_stay l.grown hs)) (λ e y m i.
      then_safe _ _ (set_safe x e (here_on m (here_on l here)) (symbol_stays m.grown x k) i) (λ z t r j.
      makes_safe _ r.order (and_name_there _ x r.order.sound (symbol_stays r.grown x (symbol_stays m.grown x k)) j))))

  declaimed_safe : (d : Declared) {w : World} → IsInOrder w → DeclaredAreThere (stores_of w) d → Safe w Nothing (change (with_declaimed d) w)
  declaimed_safe d {w} o h = changed_safe (with_declaimed d) (record { sound = o.sound; specials = each_append o.specials h.specials; types = each_append o.types h.types }) (grown_same (stores_of w))

  declaim_safe : (arguments : Val) {w : World} → Here w sc → IsThere (stores_of w) arguments → Safe w PlanIsThere (declaim_plan sc arguments w)
  unfolding declaim_plan
  declaim_safe arguments {w} here h =
      then_safe _ _ (then_safe _ _ (look_safe {P = WhereDeclared} (λ w. read_specifiers w.heap w.table w.policy arguments) here.order (specifiers_read (stores_of w) w.policy arguments h)) (λ r u l k. declared_safe sc r l.order k))
      (λ d u l k. next_safe _ _ (declaimed_safe d l.order k) (λ a x m i. makes_safe _ m.order (a_constant (nil_there m.order.sound))))

  in_package_safe : (vs : List Val) {w : World} → Here w sc → Safe w PlanIsThere (in_package_plan sc vs w)
  unfolding in_package_plan
  in_package_safe [] here = refuse_safe BadForm sc
  in_package_safe (n ∷ []) here =
      next_safe _ _ (then_safe _ _ (look_safe {P = λ (s : Stores) (b : Bool). Unit {0}} (λ w. names_package (name_written w n)) here.order tt) (λ b u l k. only_safe sc b l.order))
      (λ a u l k. makes_safe _ l.order (a_constant (nil_there l.order.sound)))
  in_package_safe (n ∷ x ∷ xs) here = refuse_safe BadForm sc

  -- ---- the table of operators

  operator_safe : (o : Operator) (arguments : Val) (vs : List Val) {w : World} → Here w sc → IsThere (stores_of w) arguments → ValuesAreThere (stores_of w) vs →
      Safe w PlanIsThere (operator_plan o sc arguments vs w)
  unfolding operator_plan
  operator_safe op.Quote v vs here i h = quote_safe sc vs here h
  operator_safe op.Function v vs here i h = function_plan_safe sc vs here h
  operator_safe op.Setq v vs here i h = setq_safe sc vs here h
  operator_safe op.If v vs here i h = if_safe sc vs here h
  operator_safe op.Progn v vs here i h = progn_safe sc vs here h
  operator_safe op.Let v vs here i h = let_safe sc vs here h
  operator_safe op.LetInOrder v vs here i h = let_in_order_safe sc vs here h
  operator_safe op.Flet v vs here i h = functions_safe sc ForBody vs here h
  operator_safe op.Labels v vs here i h = functions_safe sc ForAll vs here h
  operator_safe op.Locally v vs here i h = locally_safe sc vs here h
  operator_safe op.The v vs here i h = the_safe sc vs here h
  operator_safe op.Block v vs here i h = block_safe sc vs here h
  operator_safe op.ReturnFrom v vs here i h = return_from_safe sc vs here h
  operator_safe op.Tagbody v vs here i h = tagbody_safe sc vs here h
  operator_safe op.Go v vs here i h = go_safe sc vs here h
  operator_safe op.Catch v vs here i h = catch_safe sc vs here h
  operator_safe op.Throw v vs here i h = throw_safe sc vs here h
  operator_safe op.UnwindProtect v vs here i h = unwind_safe sc vs here h
  operator_safe op.MultipleValueCall v vs here i h = values_call_safe sc vs here h
  operator_safe op.MultipleValueProg1 v vs here i h = keeping_safe sc vs here h
  operator_safe op.Values v vs here i h = values_safe sc vs here h
  operator_safe op.Funcall v vs here i h = funcall_safe sc vs here h
  operator_safe op.Apply v vs here i h = apply_safe sc vs here h
  operator_safe op.Typep v vs here i h = typep_safe sc vs here h
  operator_safe op.Defun v vs here i h = defun_safe v vs here i h
  operator_safe op.Defvar v vs here i h = defvar_safe vs here h
  operator_safe op.Defparameter v vs here i h = defparameter_safe vs here h
  operator_safe op.Defconstant v vs here i h = defparameter_safe vs here h
  operator_safe op.Declaim v vs here i h = declaim_safe v here i
  operator_safe op.InPackage v vs here i h = in_package_safe vs here

  operated_safe : (o : Operator) (arguments : Val) {w : World} → Here w sc → IsThere (stores_of w) arguments → Safe w PlanIsThere (operated o sc arguments w)
  unfolding operated
  operated_safe o arguments here h = then_safe _ _ (elements_safe sc arguments here.order h) (λ vs u l k. operator_safe o arguments vs (here_on l here) (value_stays l.grown arguments h) k)

  -- ---- macros and calls

  expansion_safe : (x : Expanded) {w : World} → IsInOrder w → WhereExpanded (stores_of w) x → Safe w PlanIsThere (expansion_or sc x w)
  unfolding expansion_or
  expansion_safe (makes_form v table heap) o (is_expanded k) = goes (later_stores (stores table heap) o k.sound k.grown) (another_form k.there)
  expansion_safe (bad place) o h = refuse_safe BadForm sc
  expansion_safe full o h = refuse_safe TooManySymbols sc

  macro_safe : (v : Val) {w : World} → IsInOrder w → IsThere (stores_of w) v → Safe w PlanIsThere (macro_plan sc v w)
  unfolding macro_plan
  macro_safe v {w} o h = expansion_safe (expanded_form w.table w.heap v) o (expanded_there w.table w.heap o.sound v h)

  called_safe : (make : List Val → Sketch) (arguments : Val) {w : World} → IsInOrder w → IsThere (stores_of w) arguments →
      ((s : Stores) → AreSound s → Grown (stores_of w) s → (vs : List Val) → ValuesAreThere s vs → SketchIsThere s (make vs)) → Safe w PlanIsThere (called sc make arguments w)
  unfolding called
  called_safe make arguments o h f =
      then_safe _ _ (elements_safe sc arguments o h) (λ vs u l k. next_safe _ _ (few_safe sc vs l.order) (λ a x m i. makes_safe _ m.order (f (stores_of x) m.order.sound (grown_on l.grown m.grown) vs (values_stay m.grown k))))

  global_safe : (v : Val) (x : SymId) (arguments : Val) (b : Bool) (o : Option Operator) {w : World} → Here w sc → IsThere (stores_of w) v →
      SymbolIsThere (stores_of w) x → IsThere (stores_of w) arguments →
      Safe w PlanIsThere (global_plan sc v x arguments b o w)
  unfolding global_plan
  global_safe v x arguments true o here h k i = macro_safe v here.order h
  global_safe v x arguments false (Some o) here h k i = operated_safe o arguments here i
  global_safe v x arguments false None {w} here h k i = by (is_left_out x) (number_of x == number_of at.DECLARE)
    where
      by : (a b : Bool) → Safe w PlanIsThere ((if a then refuse UnknownOperator sc else (if b then refuse BadForm sc else called sc (global_call x) arguments)) w)
      by true b = refuse_safe UnknownOperator sc
      by false true = refuse_safe BadForm sc
      by false false = called_safe (global_call x) arguments here.order i (λ s sound g vs j. a_global_call sound x vs (symbol_stays g x k) j)

  named_safe : (v : Val) (x : SymId) (arguments : Val) (o : Option ℕ) {w : World} → Here w sc → IsThere (stores_of w) v → SymbolIsThere (stores_of w) x →
      IsThere (stores_of w) arguments →
      Safe w PlanIsThere (named_plan sc v x arguments o w)
  unfolding named_plan
  named_safe v x arguments (Some f) here h k i = called_safe (calls_local f) arguments here.order i (λ s sound g vs j. a_local_call sound f vs j)
  named_safe v x arguments None here h k i =
      then_safe _ _ (look_safe {P = λ (s : Stores) (b : Bool). Unit {0}} (λ w. is_macro (macro_of_form w.heap v)) here.order tt)
      (λ b u l j. global_safe v x arguments b (operator_of x) (here_on l here) (value_stays l.grown v h) (symbol_stays l.grown x k) (value_stays l.grown arguments i))

  -- ---- calls of lambda expressions

  paired_there : (s : Stores) (xs : List SymId) (vs : List Val) → Each (SymbolIsThere s) xs → ValuesAreThere s vs → Where (NamedValues s) (paired xs vs)
  paired_there s [] [] h k = found_there no_more
  paired_there s [] (v ∷ vs) h k = nothing_there
  paired_there s (x ∷ xs) [] h k = nothing_there
  paired_there s (x ∷ xs) (v ∷ vs) (one_more h hs) (one_more k ks) = where_map _ (paired_there s xs vs hs ks) (λ ps i. one_more (h, k) i)

  required_there : (s : Stores) (l : LambdaList) → LambdaListIsThere s l → Where (Each (SymbolIsThere s)) (only_required l)
  required_there s l h = by l.required l.optional l.rest l.keys l.auxiliary h.required
    where
      by : (xs : List SymId) (os : List Default) (r : Option SymId) (ks : Option (List Default)) (bs : List (SymId × Val)) → Each (SymbolIsThere s) xs →
          Where (Each (SymbolIsThere s)) (only_required (make_list xs os r ks bs))
      by xs [] None None [] k = found_there k
      by xs [] None None (b ∷ bs) k = nothing_there
      by xs [] None (Some ks) bs k = nothing_there
      by xs [] (Some r) ks bs k = nothing_there
      by xs (o ∷ os) r ks bs k = nothing_there

  abbrev LambdaBindings : Stores → List (SymId × Val) × List Val → Type 0
  LambdaBindings s p = NamedValues s p.0 × ValuesAreThere s p.1

  of_lambda_there : (w : World) (vs : List Val) (fs : List Val) → IsInOrder w → ValuesAreThere (stores_of w) vs → ValuesAreThere (stores_of w) fs →
      Where (LambdaBindings (stores_of w)) (bindings_of_lambda w vs fs)
  of_lambda_there w vs [] o h k = nothing_there
  of_lambda_there w vs (l ∷ fs) o h (one_more k ks) =
      where_map _ (where_then _ (where_then only_required (lambda_list_there (stores_of w) o.sound l k) (λ x i. required_there (stores_of w) x i)) (λ xs i. paired_there (stores_of w) xs vs i h)) (λ bs i. (i, ks))

  lambda_bindings_there : (operator : Val) (vs : List Val) (w : World) → IsInOrder w → IsThere (stores_of w) operator → ValuesAreThere (stores_of w) vs →
      Where (LambdaBindings (stores_of w)) (lambda_bindings operator vs w)
  unfolding lambda_bindings
  lambda_bindings_there operator vs w o h k =
      where_then (bindings_of_lambda w vs) (where_then (elements w.heap) (lambda_in_there sc (stores_of w) operator h) (λ v i. elements_there (stores_of w) v i)) (λ fs i. of_lambda_there w vs fs o k i)

  lambda_call_safe : (operator : Val) (vs : List Val) (m : Option (List (SymId × Val) × List Val)) {w : World} → Here w sc → IsThere (stores_of w) operator →
      ValuesAreThere (stores_of w) vs → Where (LambdaBindings (stores_of w)) m →
      Safe w PlanIsThere (lambda_call sc operator vs m w)
  unfolding lambda_call
  lambda_call_safe operator vs None here h k i = makes_safe _ here.order (a_calling (a_form h) (the_sketches (the_forms k)))
  lambda_call_safe operator vs (Some p) here h k (found_there i) =
      then_safe _ _ (contents_safe sc p.1 here.order i.1) (λ c u l j. makes_safe _ l.order (let_there _ c.declared p.0 _ j.declared (each_map (named_value_stays l.grown) i.0) (a_body c.forms l.order.sound j.forms)))

  lambda_on_safe : (operator : Val) (vs : List Val) {w : World} → Here w sc → IsThere (stores_of w) operator → ValuesAreThere (stores_of w) vs →
      Safe w PlanIsThere ((few sc vs >> look (lambda_bindings operator vs) >>= lambda_call sc operator vs) w)
  lambda_on_safe operator vs here h k =
      then_safe _ _
      (next_safe _ _ (few_safe sc vs here.order) (λ a u l i. look_safe {P = λ (s : Stores) (m : Option (List (SymId × Val) × List Val)). Where (LambdaBindings s) m} (lambda_bindings operator vs) l.order (lambda_bindings_there operator vs u l.order (value_stays l.grown operator h) (values_stay l.grown k))))
      (λ m u l i. lambda_call_safe operator vs m (here_on l here) (value_stays l.grown operator h) (values_stay l.grown k) i)

  lambda_form_safe : (operator arguments : Val) {w : World} → Here w sc → IsThere (stores_of w) operator → IsThere (stores_of w) arguments →
      Safe w PlanIsThere (lambda_plan_of sc operator arguments w)
  unfolding lambda_plan_of
  lambda_form_safe operator arguments here h k =
      then_safe _ _
      (then_safe _ _
      (next_safe _ _
      (then_safe _ _ (look_safe {P = λ (s : Stores) (b : Bool). Unit {0}} (λ w. is_given (lambda_in w.heap operator)) here.order tt) (λ b u l i. only_safe sc b l.order))
      (λ a u l i. look_safe {P = λ (s : Stores) (m : Option (List Val)). Where (ValuesAreThere s) m} (λ w. elements w.heap arguments) l.order (elements_there (stores_of u) arguments (value_stays l.grown arguments k))))
      (λ m u l i. expect_safe {P = ValuesAreThere} sc m l.order i))
      (λ vs u l i. lambda_on_safe operator vs (here_on l here) (value_stays l.grown operator h) i)

  -- ---- all forms

  symbol_safe : (x : SymId) (b : Bool) {w : World} → Here w sc → SymbolIsThere (stores_of w) x → Safe w PlanIsThere (symbol_plan sc x b w)
  unfolding symbol_plan
  symbol_safe x true here h = makes_safe _ here.order (a_constant (symbol_there x h))
  symbol_safe x false {w} here h = makes_safe _ here.order (use_there (stores_of w) sc (variable_at sc x) here.scope (variable_there (stores_of w) sc x here.scope h))

  list_safe : (v : Val) (p : Option (Val × Val)) {w : World} → Here w sc → IsThere (stores_of w) v → Where (PairIsThere (stores_of w)) p → Safe w PlanIsThere (list_plan sc v p w)
  unfolding list_plan
  list_safe v None here h k = makes_safe _ here.order (a_constant h)
  list_safe v (Some (Int z, arguments)) here h k = refuse_safe BadForm sc
  list_safe v (Some (Char c, arguments)) here h k = refuse_safe BadForm sc
  list_safe v (Some (Sym x, arguments)) here h (found_there k) = named_safe v x arguments (function_at sc x) here h (symbol_of_there x k.0) k.1
  list_safe v (Some (Ref o, arguments)) here h (found_there k) = lambda_form_safe (Ref o) arguments here k.0 k.1

  pub plan_safe : (v : Val) {w : World} → Here w sc → IsThere (stores_of w) v → Safe w PlanIsThere (plan_of sc v w)
  unfolding plan_of
  plan_safe (Int z) here h = makes_safe _ here.order (a_constant h)
  plan_safe (Char c) here h = makes_safe _ here.order (a_constant h)
  plan_safe (Sym x) here h =
      then_safe _ _ (look_safe {P = λ (s : Stores) (b : Bool). Unit {0}} (λ w. is_constant_symbol w.table x) here.order tt) (λ b u l k. symbol_safe x b (here_on l here) (symbol_stays l.grown x (symbol_of_there x h)))
  plan_safe (Ref o) {w} here h =
      then_safe _ _ (look_safe {P = λ (s : Stores) (p : Option (Val × Val)). Where (PairIsThere s) p} (λ w. cons_at w.heap (Ref o)) here.order (cons_there (stores_of w) (Ref o) h)) (λ p u l k. list_safe (Ref o) p (here_on l here) (value_stays l.grown (Ref o) h) k)
