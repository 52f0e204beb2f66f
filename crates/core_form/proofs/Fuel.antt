-- More fuel keeps an ending, and no exit goes nowhere: the induction over the tree, the calls and the forms.
use Rattle.std.proofs.Common.{◌≡◌, refl, ap, sym, subst, ◌∙◌, ℕ, zero, suc, ◌+◌, ◌≤◌, ◌==◌, Bool, true, false, not, List, [], ◌∷◌, ◌++◌, length, reverse, arith, Option, Some, None}
use Rattle.std.proofs.lemmas.List.{reverse-append, append-nil}
use Rattle.std.specs.Prelude.{slice_get, zip}
use Rattle.lisp_base.specs.declared.values.SymId.{SymId}
use Rattle.lisp_base.specs.declared.values.Val.{Val}
use Rattle.lisp_base.specs.declared.values.Place.{Place}
use Rattle.lisp_base.specs.Sort.{nil}
use Rattle.core_form.specs.declared.tree.Variable.{Variable}
use Rattle.core_form.specs.declared.tree.Variable.TheVariants.{Lexical, Special}
use Rattle.core_form.specs.Arithmetic.{arithmetic}
use Rattle.core_form.specs.Tree.{Parameter, Core, Quote, Local, SetLocal, Global, SetGlobal, If, Progn, Let, Function, Labels, CallLocal, CallGlobal, Funcall, Apply, MvCall, FunLocal, FunGlobal, SetFun, Primitive, Is, The, Block, ReturnFrom, Tagbody, Go, Catch, Throw, Unwind, Values, MvProg1, Cores, no_core, core, cores_length, Bindings, no_binding, binding, Optionals, no_optional, optional, Lambda, lambda, Items, no_item, tag, step, Top}
use Rattle.core_form.specs.Facts.{FunctionText, Code, has_number, facts_of, functions_in, functions_count, binding_parameters, tagbody_number, closed_of}
use Rattle.core_form.specs.State.{Symbol, Object, Pair, Vector, Str, Fun, Cell, State}
use Rattle.core_form.specs.Force.{Vals, is_true, symbol_kinds_of, keeping, in_force}
use Rattle.core_form.specs.Step.{Around, inside, at_word, plain, with_tail, forced, deep, takes, all_lexical, entered, with_entry, with_catch}
use Rattle.core_form.specs.Run.{Outcome, Gives, Leaves, Fails, NotYet, Run}
use Rattle.core_form.specs.Eval.{Call, call_object, call_value, funcall, call_symbol, apply, call_with_values, call_local, known, known_or, with_special, with_variable, with_bindings, with_parameter, with_required, with_supplied, with_rest, for_variable, eval, args, gathered, progn, values_of, steps, steps_from, with_optionals, function_body, enter, call_code, no_code, no_call, call_to, Program, at_top, run_form, run_forms, start, table_of, evaluate, ending_of, Astray, state_of, output_of, counts_of}
use Rattle.core_form.specs.Growth.{CountsGrow, Reaches}
use Rattle.core_form.specs.Laws.{MoreFuelKeeps, OutputStays, CountersStay, NeverAstray}
use Rattle.core_form.proofs.Lasting.{counts_same, read_lasts, spend_lasts, allot_lasts, box_lasts, stack_lasts, hold_lasts, begin_lasts, entry_lasts}
use Rattle.core_form.proofs.Acting.{one_lasts, make_list_lasts, raise_lasts, check_lasts, check_all_lasts, primitive_lasts, global_value_lasts, global_function_lasts, set_global_lasts, variable_lasts, set_variable_lasts, capture_lasts, make_function_lasts, make_local_lasts, designated_lasts, set_function_lasts, spread_lasts, not_too_many_lasts, enter_extent_lasts, return_lasts, go_leads, throw_lasts}
use Rattle.core_form.proofs.Steady.{Limits, raised, Later, Ends, Steady, GoesTo, perform_steady, bind_steady, then_steady, pure_steady, stop_steady, stopped, either_steady, first_steady, visit_steady, call_steady, jump_steady, block_steady, catch_steady, tagbody_steady, astray_steady, change_value_steady, restoring_steady, guarded_steady, framed_steady, frame_steady}

-- two meanings of calls
abbrev pub Calls : Limits → Call → Call → Type 0
Calls w call after = (cx : Around) (k : ℕ) (ws vs : Vals) → Steady w (in_force cx.force) (call cx k ws vs) (after cx k ws vs)

-- two ways to go on in any surroundings with the same exits
abbrev pub Onward : Limits → Around → (k l : Around → Run Vals) → Type 0
Onward w cx k l = (to : Around) → (in_force to.force ≡ in_force cx.force) → Steady w (in_force to.force) (k to) (l to)

module _ {w : Limits} (call after : Call) (same : Calls w call after) where
  pub object_steady : (cx : Around) (vs : Vals) (o : Option Object) → Steady w (in_force cx.force) (call_object call cx vs o) (call_object after cx vs o)
  unfolding call_object
  object_steady cx vs None = perform_steady (one_lasts nil)
  object_steady cx vs (Some (Pair a d)) = perform_steady (one_lasts nil)
  object_steady cx vs (Some (Vector es)) = perform_steady (one_lasts nil)
  object_steady cx vs (Some (Str cs)) = perform_steady (one_lasts nil)
  object_steady cx vs (Some (Fun k closed)) = same cx k closed vs
  object_steady cx vs (Some (Cell v)) = perform_steady (one_lasts nil)

  pub value_steady : (cx : Around) (vs : Vals) (v : Val) → Steady w (in_force cx.force) (call_value call cx vs v) (call_value after cx vs v)
  unfolding call_value
  value_steady cx vs v = bind_steady (perform_steady (read_lasts _)) (λ o. object_steady cx vs o)

  pub funcall_steady : (cx : Around) (p : Place) (v : Val) (vs : Vals) → Steady w (in_force cx.force) (funcall call cx p v vs) (funcall after cx p v vs)
  unfolding funcall
  funcall_steady cx p v vs = bind_steady (perform_steady (designated_lasts cx.force p v)) (λ g. value_steady cx vs g)

  pub symbol_steady : (cx : Around) (p : Place) (s : SymId) (vs : Vals) → Steady w (in_force cx.force) (call_symbol call cx p s vs) (call_symbol after cx p s vs)
  unfolding call_symbol
  symbol_steady cx p s vs = bind_steady (first_steady (perform_steady (global_function_lasts cx.force p s))) (λ v. value_steady cx vs v)

  pub apply_steady : (cx : Around) (p : Place) (v : Val) (vs : Vals) → Steady w (in_force cx.force) (apply call cx p v vs) (apply after cx p v vs)
  unfolding apply
  apply_steady cx p v vs =
      bind_steady (perform_steady (designated_lasts cx.force p v)) (λ g. bind_steady (perform_steady (spread_lasts cx.force p vs)) (λ ws. value_steady cx ws g))

  pub with_values_steady : (cx : Around) (p : Place) (v : Val) (vs : Vals) → Steady w (in_force cx.force) (call_with_values call cx p v vs) (call_with_values after cx p v vs)
  unfolding call_with_values
  with_values_steady cx p v vs = then_steady (perform_steady (not_too_many_lasts cx.force p vs)) (funcall_steady cx p v vs)

  pub local_steady : (cx : Around) (o : Option FunctionText) (vs : Vals) → Steady w (in_force cx.force) (call_local call cx o vs) (call_local after cx o vs)
  unfolding call_local
  local_steady cx None vs = perform_steady (one_lasts nil)
  local_steady cx (Some t) vs = bind_steady (perform_steady (capture_lasts _ t)) (λ ws. same cx _ ws vs)

  pub known_steady : (o : Option FunctionText) (cx : Around) {a b : Run Vals} {r s : Run Vals} → Steady w (in_force cx.force) a b → Steady w (in_force cx.force) r s →
      Steady w (in_force cx.force) (known_or o call cx a r) (known_or o after cx b s)
  unfolding known_or
  known_steady None cx h i = i
  known_steady (Some t) cx h i =
      bind_steady (then_steady (perform_steady (spend_lasts 1)) (perform_steady (capture_lasts _ t)))
      (λ ws. bind_steady (then_steady (perform_steady (allot_lasts _)) h) (λ vs. same cx _ ws vs))

-- ---- variables

pub special_steady : {w : Limits} {inn : ℕ → Bool} (s : SymId) (v : Val) {r q : Run Vals} → Steady w inn r q → Steady w inn (with_special s v r) (with_special s v q)
unfolding with_special
special_steady s v h =
    bind_steady (then_steady (perform_steady (box_lasts _)) (perform_steady (read_lasts _)))
    (λ old. restoring_steady s (then_steady (change_value_steady s (Some v)) h) old)

pub variable_steady : {w : Limits} (cx : Around) (x : Variable) (v : Val) {k l : Around → Run Vals} → Onward w cx k l → Steady w (in_force cx.force) (with_variable cx x v k) (with_variable cx x v l)
unfolding with_variable
variable_steady cx (Lexical x n) v h = then_steady (perform_steady (variable_lasts _ x v)) (h cx refl)
variable_steady cx (Special s) v h =
    then_steady (perform_steady (stack_lasts _)) (special_steady s v (h (with_tail false (forced deep cx)) refl))

pub bindings_steady : {w : Limits} (cx : Around) (bs : Bindings) (vs : Vals) {k l : Around → Run Vals} → Onward w cx k l → Steady w (in_force cx.force) (with_bindings cx bs vs k) (with_bindings cx bs vs l)
unfolding with_bindings
bindings_steady cx no_binding vs h = h cx refl
bindings_steady cx (binding x e bs) [] h = h cx refl
bindings_steady cx (binding x e bs) (v ∷ vs) h = variable_steady cx x.variable v (λ to e. bindings_steady to bs vs (λ to' e'. h to' (e' ∙ e)))

pub parameter_steady : {w : Limits} (cx : Around) (p : Place) (x : Parameter) (v : Val) {k l : Around → Run Vals} → Onward w cx k l → Steady w (in_force cx.force) (with_parameter cx p x v k) (with_parameter cx p x v l)
unfolding with_parameter
parameter_steady cx p x v h = then_steady (perform_steady (check_all_lasts cx.force p _ v)) (variable_steady cx x.variable v h)

abbrev pub OnwardWith : Limits → Around → (k l : Around → Vals → Run Vals) → Type 0
OnwardWith w cx k l = (to : Around) (vs : Vals) → (in_force to.force ≡ in_force cx.force) → Steady w (in_force to.force) (k to vs) (l to vs)

pub required_steady : {w : Limits} (cx : Around) (p : Place) (xs : List Parameter) (vs : Vals) {k l : Around → Vals → Run Vals} → OnwardWith w cx k l →
    Steady w (in_force cx.force) (with_required cx p xs vs k) (with_required cx p xs vs l)
unfolding with_required
required_steady cx p [] vs h = h cx vs refl
required_steady cx p (x ∷ xs) [] h = h cx [] refl
required_steady cx p (x ∷ xs) (v ∷ vs) h = parameter_steady cx p x v (λ to e. required_steady to p xs vs (λ to' ws e'. h to' ws (e' ∙ e)))

pub supplied_steady : {w : Limits} (cx : Around) (p : Place) (x : Option Parameter) (b : Bool) {k l : Around → Run Vals} → Onward w cx k l →
    Steady w (in_force cx.force) (with_supplied cx p x b k) (with_supplied cx p x b l)
unfolding with_supplied
supplied_steady cx p None b h = h cx refl
supplied_steady cx p (Some x) b h = parameter_steady cx p x _ h

pub rest_steady : {w : Limits} (cx : Around) (p : Place) (x : Option Parameter) (vs : Vals) {k l : Around → Run Vals} → Onward w cx k l →
    Steady w (in_force cx.force) (with_rest cx p x vs k) (with_rest cx p x vs l)
unfolding with_rest
rest_steady cx p None vs h = h cx refl
rest_steady cx p (Some x) vs h = bind_steady (perform_steady (make_list_lasts vs)) (λ v. parameter_steady cx p x v h)

-- ---- nodes

module _ (w : Limits) (call after : Call) (same : Calls w call after) where
  -- the value for a variable is evaluated in surroundings with the same exits
  pub for_steady : (cx : Around) (x : Variable) (e : Core) → ((to : Around) → Steady w (in_force to.force) (eval call w.lower to e) (eval after w.upper to e)) →
      Steady w (in_force cx.force) (eval call w.lower (for_variable cx x) e) (eval after w.upper (for_variable cx x) e)
  for_steady cx (Lexical x k) e h = h (at_word (has_number x cx.text.facts.words) cx)
  for_steady cx (Special s) e h = h (inside cx)

  mutual
    unfolding eval

    pub eval_steady : (cx : Around) (c : Core) → Steady w (in_force cx.force) (eval call w.lower cx c) (eval after w.upper cx c)
    eval_steady cx (Quote p v) = visit_steady cx (perform_steady (one_lasts v))
    eval_steady cx (Local p x) = visit_steady cx (bind_steady (perform_steady (read_lasts _)) (λ v. perform_steady (one_lasts v)))
    eval_steady cx (SetLocal p x e) = visit_steady cx (bind_steady (first_steady (eval_steady (at_word _ cx) e)) (λ v. perform_steady (set_variable_lasts _ x v)))
    eval_steady cx (Global p s) = visit_steady cx (perform_steady (global_value_lasts cx.force p s))
    eval_steady cx (SetGlobal p s e) = visit_steady cx (bind_steady (first_steady (eval_steady (inside cx) e)) (λ v. perform_steady (set_global_lasts cx.force p s v)))
    eval_steady cx (If p a b c) =
        visit_steady cx (bind_steady (first_steady (eval_steady (inside cx) a)) (λ v. either_steady (is_true v) (eval_steady (plain cx) b) (eval_steady (plain cx) c)))
    eval_steady cx (Progn p es) = visit_steady cx (progn_steady cx es)
    eval_steady cx (Let p bs e) =
        visit_steady cx (bind_steady (values_steady cx bs) (λ vs. bindings_steady cx bs vs (λ to q. eval_steady (with_tail (all_lexical (binding_parameters bs)) to) e)))
    eval_steady cx (Function p l) = visit_steady cx (perform_steady (make_function_lasts _ _))
    eval_steady cx (Labels p ds e) = visit_steady cx (eval_steady cx e)
    eval_steady cx (CallLocal p f es) = visit_steady cx (bind_steady (args_steady (inside cx) es) (λ vs. local_steady call after same cx _ vs))
    eval_steady cx (CallGlobal p s es) = visit_steady cx (bind_steady (args_steady (inside cx) es) (λ vs. symbol_steady call after same cx p s vs))
    eval_steady cx (Funcall p e es) =
        visit_steady cx (known_steady call after same (known cx.text.facts (cores_length es) e) cx (args_steady (inside cx) es)
        (bind_steady (first_steady (eval_steady (inside cx) e)) (λ v. bind_steady (args_steady (inside cx) es) (λ vs. funcall_steady call after same cx p v vs))))
    eval_steady cx (Apply p e es) =
        visit_steady cx (bind_steady (first_steady (eval_steady (inside cx) e)) (λ v. bind_steady (args_steady (inside cx) es) (λ vs. apply_steady call after same cx p v vs)))
    eval_steady cx (MvCall p e es) =
        visit_steady cx (bind_steady (first_steady (eval_steady (inside cx) e)) (λ v. bind_steady (gathered_steady (inside cx) es) (λ vs. with_values_steady call after same cx p v vs)))
    eval_steady cx (FunLocal p f) = visit_steady cx (perform_steady (make_local_lasts _ _))
    eval_steady cx (FunGlobal p s) = visit_steady cx (perform_steady (global_function_lasts cx.force p s))
    eval_steady cx (SetFun p s e) = visit_steady cx (bind_steady (first_steady (eval_steady (inside cx) e)) (λ v. perform_steady (set_function_lasts s v)))
    eval_steady cx (Primitive p q es) = visit_steady cx (bind_steady (args_steady (at_word (arithmetic q) cx) es) (λ vs. perform_steady (primitive_lasts cx.force p q vs)))
    eval_steady cx (Is p t e) =
        visit_steady cx (bind_steady (first_steady (eval_steady (inside cx) e)) (λ v. bind_steady (then_steady (perform_steady (spend_lasts _)) (perform_steady (read_lasts _))) (λ b. perform_steady (one_lasts _))))
    eval_steady cx (The p t e) =
        visit_steady cx (bind_steady (eval_steady (at_word cx.text.word cx) e) (λ vs. then_steady (perform_steady (check_lasts cx.force p t _)) (pure_steady vs)))
    eval_steady cx (Block p b name e) =
        visit_steady cx (bind_steady (perform_steady (enter_extent_lasts _ b)) (λ k. block_steady cx.force k (eval_steady (with_tail (not (has_number b cx.text.facts.cells)) (forced (with_entry k) (plain cx))) e)))
    eval_steady cx (ReturnFrom p b e) = visit_steady cx (bind_steady (eval_steady (inside cx) e) (λ vs. perform_steady (return_lasts _ cx.force p b vs)))
    eval_steady cx (Tagbody p is) =
        visit_steady cx (then_steady (bind_steady (perform_steady (enter_extent_lasts _ (tagbody_number is)))
        (λ k. tagbody_steady cx.force k (λ t. steps_from call w.lower (forced (with_entry k) (inside cx)) t is) (λ t. steps_from after w.upper (forced (with_entry k) (inside cx)) t is)
        (λ t. from_steady (forced (with_entry k) (inside cx)) t is) (steps_steady (forced (with_entry k) (inside cx)) is)))
        (perform_steady (one_lasts nil)))
    eval_steady cx (Go p t) = visit_steady cx (jump_steady (go_leads _ cx.force p t))
    eval_steady cx (Catch p t e) =
        visit_steady cx (bind_steady (first_steady (eval_steady (inside cx) t)) (λ v. bind_steady (perform_steady entry_lasts)
        (λ k. then_steady (perform_steady (stack_lasts _)) (catch_steady cx.force v k (eval_steady (forced (with_catch v k) (inside cx)) e)))))
    eval_steady cx (Throw p t e) =
        visit_steady cx (bind_steady (first_steady (eval_steady (inside cx) t)) (λ v. bind_steady (eval_steady (inside cx) e) (λ vs. perform_steady (throw_lasts cx.force p v vs))))
    eval_steady cx (Unwind p e c) =
        visit_steady cx (then_steady (perform_steady (stack_lasts _)) (guarded_steady _ _
        (λ k. then_steady (perform_steady (hold_lasts _)) (eval_steady (forced (keeping k) (at_word true cx)) c)) (eval_steady (forced deep (inside cx)) e)))
    eval_steady cx (Values p es) = visit_steady cx (args_steady (inside cx) es)
    eval_steady cx (MvProg1 p e c) =
        visit_steady cx (bind_steady (eval_steady (inside cx) e) (λ vs. then_steady (then_steady (perform_steady (hold_lasts _)) (eval_steady (forced (keeping (length vs)) (at_word true cx)) c)) (pure_steady vs)))

    pub args_steady : (cx : Around) (es : Cores) → Steady w (in_force cx.force) (args call w.lower cx es) (args after w.upper cx es)
    args_steady cx no_core = pure_steady []
    args_steady cx (core e es) = bind_steady (first_steady (eval_steady cx e)) (λ v. bind_steady (args_steady cx es) (λ vs. pure_steady (v ∷ vs)))

    pub gathered_steady : (cx : Around) (es : Cores) → Steady w (in_force cx.force) (gathered call w.lower cx es) (gathered after w.upper cx es)
    gathered_steady cx no_core = pure_steady []
    gathered_steady cx (core e es) =
        bind_steady (eval_steady cx e) (λ vs. bind_steady (then_steady (perform_steady (hold_lasts _)) (gathered_steady (forced (keeping (length vs)) cx) es)) (λ ws. pure_steady (vs ++ ws)))

    pub progn_steady : (cx : Around) (es : Cores) → Steady w (in_force cx.force) (progn call w.lower cx es) (progn after w.upper cx es)
    progn_steady cx no_core = perform_steady (one_lasts nil)
    progn_steady cx (core e no_core) = eval_steady cx e
    progn_steady cx (core e (core f es)) = then_steady (eval_steady (at_word true cx) e) (progn_steady cx (core f es))

    pub values_steady : (cx : Around) (bs : Bindings) → Steady w (in_force cx.force) (values_of call w.lower cx bs) (values_of after w.upper cx bs)
    values_steady cx no_binding = pure_steady []
    values_steady cx (binding x e bs) =
        bind_steady (first_steady (for_steady cx x.variable e (λ to. eval_steady to e))) (λ v. bind_steady (values_steady cx bs) (λ vs. pure_steady (v ∷ vs)))

    pub steps_steady : (cx : Around) (is : Items) → Steady w (in_force cx.force) (steps call w.lower cx is) (steps after w.upper cx is)
    steps_steady cx no_item = pure_steady []
    steps_steady cx (tag t v is) = steps_steady cx is
    steps_steady cx (step e is) = then_steady (eval_steady (at_word true cx) e) (steps_steady cx is)

    pub from_steady : (cx : Around) (t : ℕ) (is : Items) → Steady w (in_force cx.force) (steps_from call w.lower cx t is) (steps_from after w.upper cx t is)
    from_steady cx t no_item = astray_steady
    from_steady cx t (tag u v is) = either_steady (t == u) (steps_steady cx is) (from_steady cx t is)
    from_steady cx t (step e is) = from_steady cx t is

    pub optionals_steady : (cx : Around) (p : Place) (os : Optionals) (vs : Vals) (k l : Around → Vals → Run Vals) → OnwardWith w cx k l →
        Steady w (in_force cx.force) (with_optionals call w.lower cx p os vs k) (with_optionals after w.upper cx p os vs l)
    optionals_steady cx p no_optional vs k l h = h cx vs refl
    optionals_steady cx p (optional x e s os) [] k l h =
        bind_steady (first_steady (eval_steady (inside cx) e)) (λ v. parameter_steady cx p x v
        (λ to q. supplied_steady to p s false (λ to' q'. optionals_steady to' p os [] k l (λ to'' ws q''. h to'' ws (q'' ∙ (q' ∙ q))))))
    optionals_steady cx p (optional x e s os) (v ∷ vs) k l h =
        parameter_steady cx p x v (λ to q. supplied_steady to p s true (λ to' q'. optionals_steady to' p os vs k l (λ to'' ws q''. h to'' ws (q'' ∙ (q' ∙ q)))))

    pub body_steady : (cx : Around) (p : Place) (vs : Vals) (l : Lambda) → Steady w (in_force cx.force) (function_body call w.lower cx p vs l) (function_body after w.upper cx p vs l)
    body_steady cx p vs (lambda k xs os r e) =
        required_steady cx p xs vs (λ cx1 ws q1. optionals_steady cx1 p os ws (λ cx2 us. with_rest cx2 p r us (λ cx3. eval call w.lower cx3 e)) (λ cx2 us. with_rest cx2 p r us (λ cx3. eval after w.upper cx3 e))
        (λ cx2 us q2. rest_steady cx2 p r us (λ cx3 q3. eval_steady cx3 e)))

  -- ---- calls

  pub enter_steady : (cx : Around) (ws vs : Vals) (c : Code) → Steady w (in_force cx.force) (enter call w.lower cx ws vs c) (enter after w.upper cx ws vs c)
  unfolding enter
  enter_steady cx ws vs c =
      let to = entered c (length vs) cx in
      then_steady (then_steady (then_steady (perform_steady (stack_lasts _)) (perform_steady (spend_lasts _))) (perform_steady (box_lasts vs)))
      (framed_steady cx.text.tail (frame_steady (zip (closed_of c.facts c.text) ws)
      (either_steady (takes c.text.lambda (length vs)) (body_steady to c.text.place vs c.text.lambda) (perform_steady (raise_lasts to.force _ c.text.place)))))

  pub form_steady : (symbols : List Symbol) (k : ℕ) (t : Top) → Steady w (λ e. false) (run_form call w.lower symbols k t) (run_form after w.upper symbols k t)
  unfolding run_form
  form_steady symbols k t =
      let cx = at_top symbols (facts_of (symbol_kinds_of symbols) k t) in
      then_steady (then_steady (perform_steady (begin_lasts _)) (perform_steady (stack_lasts _)))
      (first_steady (frame_steady [] (bind_steady (eval_steady cx t.core) (λ vs. then_steady (perform_steady (box_lasts vs)) (pure_steady vs)))))

  pub forms_steady : (symbols : List Symbol) (k : ℕ) (ts : List Top) (v : Val) → Steady w (λ e. false) (run_forms call w.lower symbols k ts v) (run_forms after w.upper symbols k ts v)
  unfolding run_forms
  forms_steady symbols k [] v = pure_steady v
  forms_steady symbols k (t ∷ ts) v = bind_steady (form_steady symbols k t) (λ w. forms_steady symbols (k + length (functions_in t.core)) ts w)

-- ---- depths

-- a call takes fuel, and the calls inside it have taken one more
pub code_steady : (w : Limits) (call after : Call) → Calls (raised w) call after → (cx : Around) (ws vs : Vals) (o : Option Code) → Steady w (in_force cx.force) (call_code call w.lower cx ws vs o) (call_code after w.upper cx ws vs o)
unfolding call_code
code_steady w call after same cx ws vs None = perform_steady (one_lasts nil)
code_steady w call after same cx ws vs (Some c) = call_steady (enter_steady (raised w) call after same cx ws vs c)

pub no_codes : (w : Limits) → suc w.lower ≤ w.low → {inn : ℕ → Bool} (o : Option Code) → Steady w inn (no_code o) (no_code o)
unfolding no_code
no_codes w much None = perform_steady (one_lasts nil)
no_codes w much (Some c) = stop_steady much (λ s. stopped s)

pub no_calls : (table : List Code) (w : Limits) → suc w.lower ≤ w.low → Calls w (no_call table) (no_call table)
unfolding no_call
no_calls table w much cx k ws vs = no_codes w much (slice_get table k)

-- the first stops, and nothing of the second is compared
pub stopped_code : (w : Limits) → suc w.lower ≤ w.low → (after : Call) → (cx : Around) (ws vs : Vals) → (o : Option Code) →
    ((s : State) → Later w.upper (in_force cx.force) s.taken s (call_code after w.upper cx ws vs o s)) → Steady w (in_force cx.force) (no_code o) (call_code after w.upper cx ws vs o)
unfolding no_code call_code
stopped_code w much after cx ws vs None later = perform_steady (one_lasts nil)
stopped_code w much after cx ws vs (Some c) later = stop_steady much later

-- the second meaning of a call, of which nothing is compared
abbrev pub LaterCalls : ℕ → Call → Type 0
LaterCalls upper after = (cx : Around) (k : ℕ) (ws vs : Vals) (s : State) → Later upper (in_force cx.force) s.taken s (after cx k ws vs s)

pub stopped_calls : (table : List Code) (w : Limits) → suc w.lower ≤ w.low → (e : ℕ) → LaterCalls w.upper (call_to table w.upper e) → Calls w (no_call table) (call_to table w.upper e)
unfolding no_call call_to
stopped_calls table w much zero later cx k ws vs = stopped_code w much (no_call table) cx ws vs (slice_get table k) (later cx k ws vs)
stopped_calls table w much (suc e) later cx k ws vs = stopped_code w much (call_to table w.upper e) cx ws vs (slice_get table k) (later cx k ws vs)

-- the same limit twice
abbrev pub level : ℕ → Limits
level m = record { lower = m; upper = m; low = m; bound = 0; ordered = omega arith; past = omega arith; most = omega arith }

-- so much was taken before that the depth is enough
pub depth_steady : (table : List Code) (w : Limits) (d e : ℕ) → d ≤ e → w.lower ≤ w.low + d → Calls w (call_to table w.lower d) (call_to table w.upper e)
unfolding call_to
depth_steady table w zero zero de much cx k ws vs =
    code_steady w (no_call table) (no_call table) (no_calls table (raised w) (omega (arith, much))) cx ws vs (slice_get table k)
depth_steady table w zero (suc e) de much cx k ws vs =
    code_steady w (no_call table) (call_to table w.upper e)
    (stopped_calls table (raised w) (omega (arith, much)) e (λ cx' k' ws' vs' s. ((depth_steady table (level w.upper) e e (omega arith) (omega arith) cx' k' ws' vs').ends s).later))
    cx ws vs (slice_get table k)
depth_steady table w (suc d) zero de much cx k ws vs = absurd (omega (arith, de))
depth_steady table w (suc d) (suc e) de much cx k ws vs =
    code_steady w (call_to table w.lower d) (call_to table w.upper e) (depth_steady table (raised w) d e (omega (arith, de)) (omega (arith, much))) cx ws vs (slice_get table k)

-- ---- programs

-- a run of a program with this limit
abbrev pub run_of : Program → ℕ → Run Val
run_of p n = run_forms (call_to (table_of p) n n) n p.symbols (functions_count p.prelude) p.forms nil

-- with two limits and what the second has taken at least where the first is short
abbrev pub limits : (n m bound : ℕ) → n ≤ m → bound ≤ suc n → bound ≤ m → Limits
limits n m bound le past most = record { lower = n; upper = m; low = 0; bound = bound; ordered = le; past = past; most = most }

pub runs_steady : (p : Program) (n m bound : ℕ) (le : n ≤ m) (past : bound ≤ suc n) (most : bound ≤ m) → Steady (limits n m bound le past most) (λ e. false) (run_of p n) (run_of p m)
runs_steady p n m bound le past most =
    let w = limits n m bound le past most in
    forms_steady w (call_to (table_of p) n n) (call_to (table_of p) m m) (depth_steady (table_of p) w n m le (omega arith)) p.symbols _ p.forms nil

-- how a program ends with two limits
pub evaluate_ends : (p : Program) (input : List ℕ) (n m bound : ℕ) (le : n ≤ m) (past : bound ≤ suc n) (most : bound ≤ m) → Ends (limits n m bound le past most) (λ e. false) 0 (start p input) (evaluate p input n) (evaluate p input m)
unfolding evaluate
evaluate_ends p input n m bound le past most = (runs_steady p n m bound le past most).ends (start p input)

pub more_fuel : MoreFuelKeeps
more_fuel p input n m le = (evaluate_ends p input n m 0 le (omega arith) (omega arith)).reaches

-- what was written before stands first
pub prefix : (a b : List ℕ) → (w : List ℕ) × (b ≡ w ++ a) → (more : List ℕ) × (reverse b ≡ reverse a ++ more)
prefix a b w = (reverse w.0, ap (λ (l : List ℕ). reverse l) w.1 ∙ reverse-append w.0 a)

pub output_reaches : (o w : Outcome Val) → Reaches o w → (more : List ℕ) × (output_of w ≡ output_of o ++ more)
output_reaches (Gives v s) w e = ([], ap (λ (u : Outcome Val). output_of u) e ∙ sym (append-nil _))
output_reaches (Leaves x s) w e = ([], ap (λ (u : Outcome Val). output_of u) e ∙ sym (append-nil _))
output_reaches (Fails x p s) w e = ([], ap (λ (u : Outcome Val). output_of u) e ∙ sym (append-nil _))
output_reaches (NotYet s) w e = prefix s.output (state_of w).output e.output

pub output_stays : OutputStays
output_stays p input n m le = output_reaches (evaluate p input n) (evaluate p input m) (more_fuel p input n m le)

pub counts_reach : (o w : Outcome Val) → Reaches o w → CountsGrow (counts_of o) (counts_of w)
counts_reach (Gives v s) w e = subst (λ (u : Outcome Val). CountsGrow s.counts (counts_of u)) (sym e) (counts_same s.counts)
counts_reach (Leaves x s) w e = subst (λ (u : Outcome Val). CountsGrow s.counts (counts_of u)) (sym e) (counts_same s.counts)
counts_reach (Fails x p s) w e = subst (λ (u : Outcome Val). CountsGrow s.counts (counts_of u)) (sym e) (counts_same s.counts)
counts_reach (NotYet s) w e = e.counts

pub counters_stay : CountersStay
counters_stay p input n m le = counts_reach (evaluate p input n) (evaluate p input m) (more_fuel p input n m le)

pub not_astray : (o : Outcome Val) → GoesTo (λ e. false) o → ending_of o ≡ Astray → ⊥
not_astray (Gives v s) h e = cc
not_astray (Leaves x s) h e = cc
not_astray (Fails x p s) h e = cc
not_astray (NotYet s) h e = cc

pub never_astray : NeverAstray
never_astray p input n = not_astray (evaluate p input n) (evaluate_ends p input n n 0 (omega arith) (omega arith) (omega arith)).later.goes
