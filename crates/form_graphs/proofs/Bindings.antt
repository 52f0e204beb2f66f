-- Forms that bind variables do in their graphs what they do.
use Rattle.std.proofs.Common.{◌≡◌, ◌≢◌, ℕ, suc, ne_eqb, ◌+◌, ◌≤◌, refl, sym, ap, subst, ◌∙◌, arith, Bool, true, false, ◌&&◌, if◌then◌else◌, List, [], ◌∷◌, Option, Some, None}
use Rattle.std.specs.Prelude.{slice_get, max, ◌*◌}
use Rattle.lisp_base.specs.declared.values.SymId.{SymId}
use Rattle.lisp_base.specs.declared.values.Val.{Val}
use Rattle.lisp_base.specs.declared.values.Place.{Place}
use Rattle.lisp_base.specs.Spec.{Spec}
use Rattle.core_form.specs.declared.tree.Variable.{Variable}
use Rattle.core_form.specs.declared.tree.Variable.TheVariants.{Lexical, Special}
use Rattle.core_form.specs.Tree.{Core, Let, Bindings, no_binding, binding}
use Rattle.core_form.specs.Facts.{Facts, has_number, binding_parameters}
use Rattle.core_form.specs.State.{Symbol, State, Exit, first_of_values, all_big}
use Rattle.core_form.specs.Effect.{leave, deliver_more, boxes_more, Ended, Gave, ◌>>=◌, ◌>>◌, pure, change, counting, spend, read, allot, box_all, add, bind_to, stack_at}
use Rattle.core_form.specs.Force.{Vals, Force, one}
use Rattle.core_form.specs.Primitives.{value_in, give}
use Rattle.core_form.specs.Step.{Around, deliver, deep, with_tail, box_in, place_in, new_variable, all_lexical, is_lexical}
use Rattle.core_form.specs.Run.{Outcome, Gives, Leaves, Fails, NotYet, Run, and_then, outcome, perform, visit, first, restore, restoring, ◌>>=◌ as ◌>>=ʳ◌, pure as pure_run}
use Rattle.core_form.specs.Eval.{Call, eval, values_of, with_bindings, with_variable, with_special, for_variable}
use Rattle.icr_graph.specs.declared.nodes.NodeKind.TheVariants as kind
use Rattle.icr_graph.specs.declared.nodes.Extent.TheVariants as extent
use Rattle.icr_graph.specs.declared.nodes.Leaving.TheVariants as way
use Rattle.icr_graph.specs.declared.parts.Variable.{Variable as GraphVariable}
use Rattle.icr_graph.specs.Plain.{FlowGraph}
use Rattle.graph_meaning.specs.Machine.{Delivered, or_no_values, value_at, without_all, Activation, with_force, Waiting, Binding, Leaving, Machine, going}
use Rattle.graph_meaning.specs.Effects.{delivered_by, test_operands, test_all, box_before, box_for, bind}
use Rattle.graph_meaning.specs.Extents.{spent, rebind}
use Rattle.form_graphs.specs.Spots.{Spot, next, Passes, none, through, Stands as VariableStands, Here, Unasserted}
use Rattle.form_graphs.specs.Standing.{StandsAt, InitialsStandAt, BindAll, UnbindAll, BoundAt, UnboundAt, ExitsAt, is_word, left_after_bindings}
use Rattle.form_graphs.specs.Landing.{at_spot, having, passed_on, Reaches, Keeps, Comes}
use Rattle.form_graphs.proofs.Coming.{keeps_all, keeps_same, keeps_then, keeps_fewer, taken_keeps, one_step, reaches_then, comes_after, comes_having, passes_through, passes_none, spent_both, spent_none}
use Rattle.form_graphs.specs.Calling.{around}
use Rattle.form_graphs.proofs.Leaves.{runs_there, Does}

-- ---- what is done around a part

module _ (symbols : List Symbol) (graphs : List FlowGraph) (rank : ℕ → ℕ) where
  -- A part whose values go to a continuation of a higher rank, and then what follows with them.
  pub part_then : (m : Machine) (low more j : ℕ) (r q : Spot) (to : Option ℕ) (l : Passes) (a : Activation) (ws : List Waiting) (o : Outcome Vals) (next : Vals → Run Vals) →
      low ≤ more → more ≤ rank j → Comes symbols graphs rank m more (Some j) r none a ws o →
      ((vs : Vals) (s : State) (d : Delivered) → Keeps rank more (Some j) a.delivered d → d j ≡ Some vs → Comes symbols graphs rank (going (having d (at_spot r a)) ws s) low to q l (having d a) ws (next vs s)) →
      Comes symbols graphs rank m low to q l a ws (and_then o next)
  part_then m low more j r q to l a ws (Gives vs s) next le high (d, kept, holds, reached) follows =
      comes_having symbols graphs rank m low low to q l a d ws (next vs s) (omega arith) (keeps_fewer rank low more to a.delivered d le (keeps_all rank more j to a.delivered d high kept))
      (comes_after symbols graphs rank m (going (having d (at_spot r a)) ws s) low to q l (having d a) ws (next vs s) (subst (λ (t : State). Reaches symbols graphs m (going (having d (at_spot r a)) ws t)) (passes_none vs s) reached) (follows vs s d kept holds))
  part_then m low more j r q to l a ws (Leaves e s) next le high (d, p, f, kept, reached) follows = (d, p, f, keeps_fewer rank low more to a.delivered d le (keeps_all rank more j to a.delivered d high kept), reached)
  part_then m low more j r q to l a ws (Fails x p s) next le high came follows = came
  part_then m low more j r q to l a ws (NotYet s) next le high came follows = came

  -- A form passes on the values of what it is made of.
  pub passes_comes : (m : Machine) (low : ℕ) (to : Option ℕ) (q : Spot) (w : Bool) (l : Passes) (a : Activation) (ws : List Waiting) (o : Outcome Vals) →
      Comes symbols graphs rank m low to q (through w l) a ws o → Comes symbols graphs rank m low to q l a ws (and_then o (λ vs. perform (deliver w vs)))
  unfolding perform deliver deliver_more boxes_more counting change ◌>>=◌ pure
  passes_comes m low to q w l a ws (Gives vs s) (d, kept, holds, reached) =
      (d, kept, holds, subst (λ (t : State). Reaches symbols graphs m (going (having d (at_spot q a)) ws t)) (passes_through w l vs s) reached)
  passes_comes m low to q w l a ws (Leaves e s) came = came
  passes_comes m low to q w l a ws (Fails x p s) came = came
  passes_comes m low to q w l a ws (NotYet s) came = came

module _ (symbols : List Symbol) (graphs : List FlowGraph) (number : ℕ) (g : FlowGraph) (facts : Facts) (rank : ℕ → ℕ) (there : slice_get graphs number ≡ Some g) where
  -- ---- special variables

  -- the extent of a special variable ends
  closes : (pl : Place) (p : Spot) (x : SymId) (old : Option Val) (f : Force) (a : Activation) (ws : List Waiting) (s : State) → a.graph ≡ number → ExitsAt g facts rank p way.Close pl →
      Reaches symbols graphs (going (at_spot p a) (Binding x old f ∷ ws) s) (going (at_spot (next p) (with_force f a)) ws (give x old s))
  unfolding box_before test_operands ◌>>=◌ pure
  closes pl p x old f a ws s at (entry, (b, here)) =
      subst (λ (m : Machine). Reaches symbols graphs (going (at_spot p a) (Binding x old f ∷ ws) s) m)
      (runs_there symbols graphs number g facts rank there p _ a (Binding x old f ∷ ws) s at here ∙ ap (λ (u : State). going (at_spot (next p) (with_force f a)) ws (give x old u)) (spent_none s))
      (one_step symbols graphs (going (at_spot p a) (Binding x old f ∷ ws) s))

  -- An exit passes the binding of a special variable.
  passes_binding : (x : SymId) (old : Option Val) (f : Force) (e : Exit) (a : Activation) (ws : List Waiting) (s : State) →
      Reaches symbols graphs (record { control = Leaving e; here = a; waiting = Binding x old f ∷ ws; state = s }) (record { control = Leaving e; here = a; waiting = ws; state = give x old (spent 1 s) })
  passes_binding x old f e a ws s = one_step symbols graphs (record { control = Leaving e; here = a; waiting = Binding x old f ∷ ws; state = s })

  -- What comes to the end of the extent of a special variable has its old value behind it.
  restored_comes : (m : Machine) (low : ℕ) (to : Option ℕ) (pl : Place) (q : Spot) (l : Passes) (x : SymId) (old : Option Val) (f : Force) (a : Activation) (ws : List Waiting) (o : Outcome Vals) → a.graph ≡ number →
      ExitsAt g facts rank q way.Close pl → Comes symbols graphs rank m low to q l (with_force f a) (Binding x old a.force ∷ ws) o → Comes symbols graphs rank m low to (next q) l a ws (restore x old o)
  unfolding perform change spend counting leave ◌>>=ʳ◌ pure_run
  restored_comes m low to pl q l x old f a ws (Gives vs s) at exits (d, kept, holds, reached) =
      (d, kept, holds, reaches_then symbols graphs reached (closes pl q x old a.force (having d (with_force f a)) ws (passed_on l vs s) at exits))
  restored_comes m low to pl q l x old f a ws (Leaves e s) at exits (d, p, h, kept, reached) =
      (d, p, h, kept, reaches_then symbols graphs reached (passes_binding x old a.force e (with_force h (having d (at_spot p a))) ws s))
  restored_comes m low to pl q l x old f a ws (Fails y p s) at exits came = came
  restored_comes m low to pl q l x old f a ws (NotYet s) at exits came = came

  -- what an entry of a special variable does
  abbrev rebound : Force → SymId → Val → State → State
  rebound f x v s =
      give x (Some v) (record s { counts = record s.counts { stack_words = max s.counts.stack_words f.words; cost = s.counts.cost + 2 * all_big (v ∷ []); heap_words = s.counts.heap_words + 2 * all_big (v ∷ []) } })

  -- the extent of a special variable begins
  opens : (pl : Place) (p : Spot) (x : SymId) (k : ℕ) (exits : List ℕ) (a : Activation) (ws : List Waiting) (s : State) → a.graph ≡ number → Unasserted g k → Here g p (kind.Entry (extent.Special x k) exits) None pl 0 none →
      Reaches symbols graphs (going (at_spot p a) ws s)
      (going (at_spot (next p) (with_force (deep a.force) (having (without_all (k ∷ []) a.delivered) a))) (Binding x (value_in x s) a.force ∷ ws) (rebound (deep a.force) x (value_at a.delivered k) s))
  unfolding box_before test_operands test_all ◌>>=◌ pure rebind stack_at box_all allot counting change read
  opens pl p x k exits a ws s at free (b, here) =
      subst (λ (m : Machine). Reaches symbols graphs (going (at_spot p a) ws s) m)
      (runs_there symbols graphs number g facts rank there p _ a ws s at here ∙ rw free (ap (λ (u : State). going (at_spot (next p) (with_force (deep a.force) (having (without_all (k ∷ []) a.delivered) a))) (Binding x (value_in x u) a.force ∷ ws) (rebound (deep a.force) x (value_at a.delivered k) u)) (spent_none s)))
      (one_step symbols graphs (going (at_spot p a) ws s))

  -- ---- lexical variables

  -- a node gives a variable of the graph the value that the form gives its own
  bound_alike : (word cell : Bool) (x : ℕ) (v : Val) (s : State) →
      (u : State) × (((if word then pure tt else box_all (v ∷ [])) >> place_in cell x v >> one v) s ≡ Gave (v ∷ []) u) × (((if word then pure tt else box_all (v ∷ [])) >> place_in cell x v) s ≡ Gave tt u)
  unfolding place_in one ◌>>=◌ pure box_all allot counting change add bind_to
  bound_alike true true x v s = (_, refl, refl)
  bound_alike true false x v s = (_, refl, refl)
  bound_alike false true x v s = (_, refl, refl)
  bound_alike false false x v s = (_, refl, refl)

  binds_alike : (y : GraphVariable) (x : ℕ) (v : Val) (s : State) → VariableStands facts y x → (u : State) × (bind y v s ≡ Gave (v ∷ []) u) × (new_variable facts x v s ≡ Gave tt u)
  unfolding bind box_for new_variable box_in
  binds_alike y x v s stands = rw (stands.number, stands.cell, stands.word) (bound_alike (has_number x facts.words) (has_number x facts.cells) x v s)

  -- a lexical variable is bound
  binds : (pl : Place) (p : Spot) (x : ℕ) (i k : ℕ) (v : Val) (u : State) (y : GraphVariable) (a : Activation) (ws : List Waiting) (s : State) → a.graph ≡ number → Unasserted g k → g.variable i ≡ Some y → Here g p (kind.Bind i k) None pl 0 none →
      bind y (value_at a.delivered k) s ≡ Gave (v ∷ []) u →
      Reaches symbols graphs (going (at_spot p a) ws s) (going (at_spot (next p) (having (without_all (k ∷ []) a.delivered) a)) ws u)
  unfolding box_before test_operands test_all ◌>>=◌ pure delivered_by deliver_more boxes_more counting change
  binds pl p x i k v u y a ws s at free same (b, here) does =
      subst (λ (m : Machine). Reaches symbols graphs (going (at_spot p a) ws s) m)
      (runs_there symbols graphs number g facts rank there p _ a ws s at here ∙ rw (free, spent_none s, same, does) (ap (λ (t : State). going (at_spot (next p) (having (without_all (k ∷ []) a.delivered) a)) ws t) (passes_none (v ∷ []) u)))
      (one_step symbols graphs (going (at_spot p a) ws s))

  -- ---- a variable, and what is done with it

  -- where a variable is bound: whether that is in tail position, and what is in force
  abbrev pub tail_in : Variable → Bool → Bool
  tail_in (Lexical x n) t = t
  tail_in (Special s) t = false

  abbrev pub force_in : Variable → Force → Force
  force_in (Lexical x n) f = f
  force_in (Special s) f = deep f

  abbrev pub within : Variable → ℕ → Activation → Activation
  within x k a = with_force (force_in x a.force) (having (without_all (k ∷ []) a.delivered) a)

  -- A variable is bound to what a continuation holds, then something is done, and the variable's extent ends.
  pub variable_comes : (x : Variable) (low : ℕ) (to : Option ℕ) (p q r : Spot) (l : Passes) (pl : Place) (t w : Bool) (k : ℕ) (body : Around → Run Vals) (a : Activation) (ws : List Waiting) (s : State) → a.graph ≡ number → low ≤ rank k →
      Unasserted g k → BoundAt g facts rank pl x k p → UnboundAt g facts rank pl x r q →
      ((ws' : List Waiting) (u : State) → Comes symbols graphs rank (going (at_spot (next p) (within x k a)) ws' u) low to r l (within x k a) ws' (body (around facts (tail_in x t) w (force_in x a.force)) u)) →
      Comes symbols graphs rank (going (at_spot p a) ws s) low to q l a ws (with_variable (around facts t w a.force) x (value_at a.delivered k) body s)
  unfolding with_variable with_special perform restoring read change box_all allot counting stack_at ◌>>=ʳ◌
  variable_comes (Lexical x n) low to p q r l pl t w k body a ws s at more free (i, (y, found, stands), here) end follows =
      let (u, does, same) = binds_alike y x (value_at a.delivered k) s stands in
      subst (λ (z : Spot). Comes symbols graphs rank (going (at_spot p a) ws s) low to z l a ws (and_then (outcome (new_variable facts x (value_at a.delivered k) s)) (λ v. body (around facts t w a.force)))) end
      (subst (λ (e : Ended (Unit {0})). Comes symbols graphs rank (going (at_spot p a) ws s) low to r l a ws (and_then (outcome e) (λ v. body (around facts t w a.force)))) (sym same)
      (comes_having symbols graphs rank (going (at_spot p a) ws s) low low to r l a (without_all (k ∷ []) a.delivered) ws (body (around facts t w a.force) u) (omega arith) (taken_keeps rank low to (k ∷ []) a.delivered (more, tt))
      (comes_after symbols graphs rank (going (at_spot p a) ws s) (going (at_spot (next p) (within (Lexical x n) k a)) ws u) low to r l (within (Lexical x n) k a) ws (body (around facts t w a.force) u)
      (binds pl p x i k (value_at a.delivered k) u y a ws s at free found here does) (follows ws u))))
  variable_comes (Special x) low to p q r l pl t w k body a ws s at more free (exits, here) (ends, end) follows =
      let b : Activation = having (without_all (k ∷ []) a.delivered) a in
      let u : State = rebound (deep a.force) x (value_at a.delivered k) s in
      let o : Outcome Vals = body (around facts false w (deep a.force)) u in
      subst (λ (z : Spot). Comes symbols graphs rank (going (at_spot p a) ws s) low to z l a ws (restore x (value_in x s) o)) (sym end)
      (comes_having symbols graphs rank (going (at_spot p a) ws s) low low to (next r) l a (without_all (k ∷ []) a.delivered) ws (restore x (value_in x s) o) (omega arith) (taken_keeps rank low to (k ∷ []) a.delivered (more, tt))
      (restored_comes (going (at_spot p a) ws s) low to pl r l x (value_in x s) (deep a.force) b ws o at ends
      (comes_after symbols graphs rank (going (at_spot p a) ws s) (going (at_spot (next p) (within (Special x) k a)) (Binding x (value_in x s) a.force ∷ ws) u) low to r l (within (Special x) k a) (Binding x (value_in x s) a.force ∷ ws) o
      (opens pl p x k exits a ws s at free here) (follows (Binding x (value_in x s) a.force ∷ ws) u))))

  -- ---- all variables of a LET

  -- the first values that continuations hold
  abbrev pub HoldAll : Delivered → List ℕ → Vals → Type 0
  HoldAll d [] [] = Unit {0}
  HoldAll d [] (v ∷ vs) = ⊥
  HoldAll d (k ∷ ks) [] = ⊥
  HoldAll d (k ∷ ks) (v ∷ vs) = (value_at d k ≡ v) × HoldAll d ks vs

  -- the ranks of continuations rise from low on
  abbrev pub Rising : (low : ℕ) → List ℕ → Type 0
  Rising low [] = Unit {0}
  Rising low (k ∷ ks) = (low ≤ rank k) × Rising (suc (rank k)) ks

  -- a continuation of a lower rank is taken
  hold_still : (low k : ℕ) (ks : List ℕ) (vs : Vals) (d : Delivered) → suc (rank k) ≤ low → Rising low ks → HoldAll d ks vs → HoldAll (without_all (k ∷ []) d) ks vs
  hold_still low k [] [] d less rising hold = tt
  hold_still low k [] (v ∷ vs) d less rising hold = hold
  hold_still low k (j ∷ ks) [] d less rising hold = hold
  hold_still low k (j ∷ ks) (v ∷ vs) d less (more, rising) (held, hold) =
      (rw (ne_eqb j k unequal) held, hold_still (suc (rank j)) k ks vs d (omega (arith, less, more)) rising hold)
    where
      no_less : suc (rank k) ≤ rank k → ⊥
      no_less m = omega (arith, m)

      unequal : j ≢ k
      unequal same = no_less (subst (λ (i : ℕ). suc (rank k) ≤ rank i) same (omega (arith, less, more)))

  no_lies : {A : Type 0} → false ≡ true → A
  no_lies lie = absurd (subst Untrue lie tt)
    where
      Untrue : Bool → Type 0
      Untrue true = ⊥
      Untrue false = Unit {0}

  -- the body of a LET is in tail position only where all its variables are lexical
  tail_inside : (x : Variable) (types : List Spec) (rest all t t0 : Bool) → (all && t) ≡ t0 → (all ≡ true → (is_lexical (record { variable = x; types = types }) && rest) ≡ true) → (all && tail_in x t) ≡ t0
  tail_inside (Lexical x n) types rest all t t0 same lexical = same
  tail_inside (Special s) types rest true t t0 same lexical = no_lies (lexical refl)
  tail_inside (Special s) types rest false t t0 same lexical = same

  rest_lexical : (x : Variable) (types : List Spec) (rest all : Bool) → (all ≡ true → (is_lexical (record { variable = x; types = types }) && rest) ≡ true) → all ≡ true → rest ≡ true
  rest_lexical (Lexical x n) types rest all lexical sure = lexical sure
  rest_lexical (Special s) types rest all lexical sure = no_lies (lexical sure)

  -- The variables of a LET are bound to what continuations hold, then something is done, and their extents end.
  bindings_comes : (bs : Bindings) (low rise : ℕ) (to : Option ℕ) (p x y q : Spot) (l : Passes) (pl : Place) (t w all t0 : Bool) (ks : List ℕ) (vs : Vals) (body : Around → Run Vals) (a : Activation) (ws : List Waiting) (s : State) → a.graph ≡ number →
      low ≤ rise → Rising rise ks → HoldAll a.delivered ks vs → BindAll g facts rank pl bs ks p x → UnbindAll g facts rank pl bs y q →
      (all && t) ≡ t0 → (all ≡ true → all_lexical (binding_parameters bs) ≡ true) →
      ((t' : Bool) (b : Activation) (ws' : List Waiting) (u : State) → (all && t') ≡ t0 → b.graph ≡ number → Comes symbols graphs rank (going (at_spot x b) ws' u) low to y l b ws' (body (around facts t' w b.force) u)) →
      Comes symbols graphs rank (going (at_spot p a) ws s) low to q l a ws (with_bindings (around facts t w a.force) bs vs body s)
  unfolding with_bindings
  bindings_comes no_binding low rise to p x y q l pl t w all t0 [] vs body a ws s at le rising hold start end same lexical follows =
      subst (λ (z : Spot). Comes symbols graphs rank (going (at_spot p a) ws s) low to z l a ws (body (around facts t w a.force) s)) end
      (subst (λ (z : Spot). Comes symbols graphs rank (going (at_spot z a) ws s) low to y l a ws (body (around facts t w a.force) s)) (sym start) (follows t a ws s same at))
  bindings_comes no_binding low rise to p x y q l pl t w all t0 (k ∷ ks) vs body a ws s at le rising hold start end same lexical follows = absurd start
  bindings_comes (binding z e bs) low rise to p x y q l pl t w all t0 [] vs body a ws s at le rising hold start end same lexical follows = absurd start
  bindings_comes (binding z e bs) low rise to p x y q l pl t w all t0 (k ∷ ks) [] body a ws s at le rising hold start end same lexical follows = absurd hold
  bindings_comes (binding z e bs) low rise to p x y q l pl t w all t0 (k ∷ ks) (v ∷ vs) body a ws s at le (more, rising) (held, hold) (free, bound, start) (r, end, unbound) same lexical follows =
      subst (λ (u : Val). Comes symbols graphs rank (going (at_spot p a) ws s) low to q l a ws (with_variable (around facts t w a.force) z.variable u (λ cx. with_bindings cx bs vs body) s)) held
      (variable_comes z.variable low to p q r l pl t w k (λ cx. with_bindings cx bs vs body) a ws s at (omega (arith, le, more)) free bound unbound
      (λ ws' u. bindings_comes bs low (suc (rank k)) to (next p) x y r l pl (tail_in z.variable t) w all t0 ks vs body (within z.variable k a) ws' u at (omega (arith, le, more)) rising
      (hold_still (suc (rank k)) k ks vs a.delivered (omega arith) rising hold) start end
      (tail_inside z.variable z.types (all_lexical (binding_parameters bs)) all t t0 same lexical) (rest_lexical z.variable z.types (all_lexical (binding_parameters bs)) all lexical) follows))

  module _ (call : Call) (limit : ℕ) where
    -- a part of a form does what it must come to, wherever it stands
    abbrev pub PartDoes : Core → Type 0
    PartDoes e =
        (t w : Bool) (n : ℕ) (l : Passes) (low : ℕ) (to : Option ℕ) (p q : Spot) → StandsAt g facts rank t w e n l low to p q → Does symbols graphs number g facts rank there call limit t w e n l low to p q

    -- those that give the values for the variables of a LET
    abbrev pub InitialsDo : Bindings → Type 0
    InitialsDo no_binding = Unit {0}
    InitialsDo (binding x e bs) = PartDoes e × InitialsDo bs

    initials_rise : (bs : Bindings) (n low : ℕ) (ks : List ℕ) (p r : Spot) → InitialsStandAt g facts rank bs n low ks p r → Rising low ks
    initials_rise no_binding n low ks p r (same, end) = subst (Rising low) (sym same) tt
    initials_rise (binding x e bs) n low [] p r stand = absurd stand
    initials_rise (binding x e bs) n low (k ∷ ks) p r (y, more, stands, stand) = (more, initials_rise bs 0 (suc (rank k)) ks y r stand)

    -- how a value for a variable is evaluated
    for_variable_is : (t w : Bool) (f : Force) (x : Variable) → for_variable (around facts t w f) x ≡ around facts false (is_word facts x) f
    for_variable_is t w f (Lexical x n) = refl
    for_variable_is t w f (Special s) = refl

    values_then : (o : Outcome Vals) (m : Run Vals) (next : Vals → Run Vals) →
        and_then o (λ us s. and_then (m s) (λ vs. next (first_of_values us ∷ vs))) ≡ and_then (and_then (and_then o (λ us. pure_run (first_of_values us))) (λ v s. and_then (m s) (λ vs. pure_run (v ∷ vs)))) next
    unfolding pure_run
    values_then (Gives us s) m next = again (m s)
      where
        again : (r : Outcome Vals) → and_then r (λ vs. next (first_of_values us ∷ vs)) ≡ and_then (and_then r (λ vs. pure_run (first_of_values us ∷ vs))) next
        again (Gives vs u) = refl
        again (Leaves e u) = refl
        again (Fails x p u) = refl
        again (NotYet u) = refl
    values_then (Leaves e s) m next = refl
    values_then (Fails x p s) m next = refl
    values_then (NotYet s) m next = refl

    none_left : (bs : Bindings) → left_after_bindings bs 0 ≡ 0
    none_left no_binding = refl
    none_left (binding x e bs) = refl

    none_is_none : (k : ℕ) → None ≢ Some k
    none_is_none k same = subst Empty same tt
      where
        Empty : Option ℕ → Type 0
        Empty None = Unit {0}
        Empty (Some j) = ⊥

    still_holds : (k : ℕ) (us : Vals) (d d' : Delivered) → Keeps rank (suc (rank k)) None d d' → d k ≡ Some us → value_at d' k ≡ first_of_values us
    still_holds k us d d' kept holds = ap (λ (o : Option Vals). first_of_values (or_no_values o)) (kept k (omega arith) (none_is_none k) ∙ holds)

    -- The values for the variables of a LET are delivered, and then what follows with them.
    initials_comes : (bs : Bindings) (t w : Bool) (n low more : ℕ) (ks : List ℕ) (p r q : Spot) (to : Option ℕ) (l : Passes) (a : Activation) (ws : List Waiting) (s : State) (next : Vals → Run Vals) → a.graph ≡ number → low ≤ more →
        InitialsStandAt g facts rank bs n more ks p r → InitialsDo bs →
        ((vs : Vals) (u : State) (d : Delivered) → Keeps rank more None a.delivered d → HoldAll d ks vs → Comes symbols graphs rank (going (at_spot r (having d a)) ws u) low to q l (having d a) ws (next vs (spent (left_after_bindings bs n) u))) →
        Comes symbols graphs rank (going (at_spot p a) ws s) low to q l a ws (and_then (values_of call limit (around facts t w a.force) bs (spent n s)) next)
    unfolding values_of pure_run first ◌>>=ʳ◌
    initials_comes no_binding t w n low more ks p r q to l a ws s next at le (no_more, end) does follows =
        subst (λ (z : Spot). Comes symbols graphs rank (going (at_spot z a) ws s) low to q l a ws (next [] (spent n s))) (sym end)
        (follows [] s a.delivered (keeps_same rank more None a.delivered) (subst (λ (js : List ℕ). HoldAll a.delivered js []) (sym no_more) tt))
    initials_comes (binding x e bs) t w n low more [] p r q to l a ws s next at le stand does follows = absurd stand
    initials_comes (binding x e bs) t w n low more (k ∷ ks) p r q to l a ws s next at le (y, high, stands, stand) (part, does) follows =
        subst (λ (cx : Around). Comes symbols graphs rank (going (at_spot p a) ws s) low to q l a ws (and_then (and_then (and_then (eval call limit cx e (spent n s)) (λ us. pure_run (first_of_values us))) (λ v u. and_then (values_of call limit (around facts t w a.force) bs u) (λ vs. pure_run (v ∷ vs)))) next)) (sym (for_variable_is t w a.force x.variable))
        (subst (λ (o : Outcome Vals). Comes symbols graphs rank (going (at_spot p a) ws s) low to q l a ws o) (values_then (eval call limit (around facts false (is_word facts x.variable) a.force) e (spent n s)) (values_of call limit (around facts t w a.force) bs) next)
        (part_then symbols graphs rank (going (at_spot p a) ws s) low more k y q to l a ws (eval call limit (around facts false (is_word facts x.variable) a.force) e (spent n s)) (λ us u. and_then (values_of call limit (around facts t w a.force) bs u) (λ vs. next (first_of_values us ∷ vs))) le high
        (part false (is_word facts x.variable) n none more (Some k) p y stands a.force a ws s at refl)
        (λ us u d kept holds. subst (λ (v : State). Comes symbols graphs rank (going (at_spot y (having d a)) ws u) low to q l (having d a) ws (and_then (values_of call limit (around facts t w a.force) bs v) (λ vs. next (first_of_values us ∷ vs)))) (spent_none u)
        (initials_comes bs t w 0 low (suc (rank k)) ks y r q to l (having d a) ws u (λ vs. next (first_of_values us ∷ vs)) at (omega (arith, le, high)) stand does
        (λ vs v d' kept' hold. subst (λ (j : ℕ). Comes symbols graphs rank (going (at_spot r (having d' a)) ws v) low to q l (having d' a) ws (next (first_of_values us ∷ vs) (spent j v))) (sym (none_left bs))
        (follows (first_of_values us ∷ vs) v d' (keeps_then rank more None a.delivered d d' (keeps_all rank more k None a.delivered d high kept) (keeps_fewer rank more (suc (rank k)) None d d' (omega (arith, high)) kept'))
        (still_holds k us d d' kept' holds, hold)))))))

    -- The variables of a LET are bound, and its body runs: where none is bound, the body takes the cost.
    body_comes : (bs : Bindings) (t w : Bool) (pl : Place) (e : Core) (n : ℕ) (l : Passes) (low rise : ℕ) (to : Option ℕ) (p x y q : Spot) (ks : List ℕ) (vs : Vals) (a : Activation) (ws : List Waiting) (s : State) → a.graph ≡ number →
        low ≤ rise → Rising rise ks → HoldAll a.delivered ks vs → BindAll g facts rank pl bs ks p x → UnbindAll g facts rank pl bs y q →
        StandsAt g facts rank (all_lexical (binding_parameters bs) && t) w e (left_after_bindings bs n) l low to x y → PartDoes e →
        Comes symbols graphs rank (going (at_spot p a) ws s) low to q l a ws (with_bindings (around facts t w a.force) bs vs (λ cx. eval call limit (with_tail (all_lexical (binding_parameters bs)) cx) e) (spent (left_after_bindings bs n) s))
    unfolding with_bindings
    body_comes no_binding t w pl e n l low rise to p x y q [] vs a ws s at le rising hold start end stands part =
        subst (λ (z : Spot). Comes symbols graphs rank (going (at_spot p a) ws s) low to z l a ws (eval call limit (around facts t w a.force) e (spent n s))) end
        (subst (λ (z : Spot). Comes symbols graphs rank (going (at_spot z a) ws s) low to y l a ws (eval call limit (around facts t w a.force) e (spent n s))) (sym start)
        (part t w n l low to x y stands a.force a ws s at refl))
    body_comes no_binding t w pl e n l low rise to p x y q (k ∷ ks) vs a ws s at le rising hold start end stands part = absurd start
    body_comes (binding z i bs) t w pl e n l low rise to p x y q ks vs a ws s at le rising hold start end stands part =
        subst (λ (u : State). Comes symbols graphs rank (going (at_spot p a) ws s) low to q l a ws (with_bindings (around facts t w a.force) (binding z i bs) vs (λ cx. eval call limit (with_tail (all_lexical (binding_parameters (binding z i bs))) cx) e) u)) (sym (spent_none s))
        (bindings_comes (binding z i bs) low rise to p x y q l pl t w (all_lexical (binding_parameters (binding z i bs))) (all_lexical (binding_parameters (binding z i bs)) && t) ks vs (λ cx. eval call limit (with_tail (all_lexical (binding_parameters (binding z i bs))) cx) e) a ws s at le rising hold start end refl (λ sure. sure)
        (λ t' b ws' u same there'. subst (λ (v : Bool). Comes symbols graphs rank (going (at_spot x b) ws' u) low to y l b ws' (eval call limit (around facts v w b.force) e u)) (sym same)
        (subst (λ (v : State). Comes symbols graphs rank (going (at_spot x b) ws' u) low to y l b ws' (eval call limit (around facts (all_lexical (binding_parameters (binding z i bs)) && t) w b.force) e v)) (spent_none u)
        (part (all_lexical (binding_parameters (binding z i bs)) && t) w 0 l low to x y stands b.force b ws' u there' refl))))

    pub let_does : (t w : Bool) (pl : Place) (bs : Bindings) (e : Core) (n : ℕ) (l : Passes) (low : ℕ) (to : Option ℕ) (p q : Spot) → InitialsDo bs → PartDoes e →
        StandsAt g facts rank t w (Let pl bs e) n l low to p q → Does symbols graphs number g facts rank there call limit t w (Let pl bs e) n l low to p q
    unfolding eval visit perform spend counting change ◌>>=ʳ◌
    let_does t w pl bs e n l low to p q initials part (ks, r, x, y, stand, start, stands, end) f a ws s at force =
        subst (λ (h : Force). Comes symbols graphs rank (going (at_spot p a) ws s) low to q l a ws (eval call limit (around facts t w h) (Let pl bs e) (spent n s))) force
        (passes_comes symbols graphs rank (going (at_spot p a) ws s) low to q w l a ws (and_then (values_of call limit (around facts t w a.force) bs (spent 1 (spent n s))) (λ vs. with_bindings (around facts t w a.force) bs vs (λ cx. eval call limit (with_tail (all_lexical (binding_parameters bs)) cx) e)))
        (subst (λ (u : State). Comes symbols graphs rank (going (at_spot p a) ws s) low to q (through w l) a ws (and_then (values_of call limit (around facts t w a.force) bs u) (λ vs. with_bindings (around facts t w a.force) bs vs (λ cx. eval call limit (with_tail (all_lexical (binding_parameters bs)) cx) e)))) (sym (spent_both n 1 s))
        (initials_comes bs t w (n + 1) low low ks p r q to (through w l) a ws s (λ vs. with_bindings (around facts t w a.force) bs vs (λ cx. eval call limit (with_tail (all_lexical (binding_parameters bs)) cx) e)) at (omega arith) stand initials
        (λ vs u d kept hold. body_comes bs t w pl e (n + 1) (through w l) low low to r x y q ks vs (having d a) ws u at (omega arith) (initials_rise bs (n + 1) low ks p r stand) hold start end stands part))))
