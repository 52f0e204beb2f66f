-- Calls with all values of some forms do in their graphs what they do.
use Rattle.std.proofs.Common.{◌≡◌, ◌≢◌, ℕ, suc, ◌+◌, ◌≤◌, refl, sym, ap, subst, ◌∙◌, arith, Bool, false, List, [], ◌∷◌, length, Option, Some, None, ◌++◌, ne_eqb, eq-eqb}
use Rattle.std.proofs.lemmas.Option.{none-some}
use Rattle.std.specs.Prelude.{slice_get, max}
use Rattle.lisp_base.specs.declared.values.Val.{Val}
use Rattle.lisp_base.specs.declared.values.Place.{Place}
use Rattle.core_form.specs.Tree.{Core, MvCall, Cores, no_core, core}
use Rattle.core_form.specs.Facts.{Facts}
use Rattle.core_form.specs.State.{Symbol, State, first_of_values}
use Rattle.core_form.specs.Effect.{Ended, Gave, Left, Failed, and_then as and_then_effect, ◌>>=◌, pure, counting, change, hold, deliver_more, boxes_more}
use Rattle.core_form.specs.Force.{Vals, Force, keeping}
use Rattle.core_form.specs.Step.{not_too_many, deliver, designated}
use Rattle.core_form.specs.Run.{Outcome, Gives, Leaves, Fails, NotYet, Run, and_then, outcome, perform, first, ◌>>=◌ as ◌>>=ʳ◌, pure as pure_run}
use Rattle.core_form.specs.Eval.{Call, call_value, funcall, call_with_values, gathered, eval}
use Rattle.icr_graph.specs.Plain.{FlowGraph}
use Rattle.icr_graph.specs.declared.nodes.NodeKind.TheVariants as kind
use Rattle.icr_graph.specs.declared.nodes.Extent.TheVariants as extent
use Rattle.icr_graph.specs.declared.nodes.Leaving.TheVariants as way
use Rattle.graph_meaning.specs.Machine.{Delivered, value_at, with_force, Keeping, Leaving, Stopped, without_all, Activation, Waiting, Machine, going, delivered_to}
use Rattle.graph_meaning.specs.Effects.{test_operands, test_all, box_before, delivered_by}
use Rattle.graph_meaning.specs.Extents.{spent}
use Rattle.graph_meaning.specs.Running.{step, all_values}
use Rattle.form_graphs.specs.Spots.{Unasserted, Spot, next, Passes, none, through, Here}
use Rattle.form_graphs.specs.Standing.{GatheredStandAt, SameLength, ReleaseAll, AllFree, StandsAt}
use Rattle.form_graphs.specs.Landing.{at_spot, having, passed_on, Reaches, Keeps, Comes, RunsOut}
use Rattle.form_graphs.specs.Calling.{around, CallsDo}
use Rattle.form_graphs.proofs.Coming.{From, one_step, taken_keeps, stays, comes_after, comes_having, passes_none, keeps_fewer, keeps_all, keeps_same, keeps_then, spent_none, delivered_keeps, reaches_then}
use Rattle.form_graphs.proofs.Leaves.{Does, runs_there}
use Rattle.form_graphs.proofs.CallForms.{visited, node_calls}
use Rattle.form_graphs.proofs.Cleanups.{keeps_nowhere}
use Rattle.form_graphs.proofs.Calls.{regroup, comes_then_from, Everywhere, AllDo}

-- all values of continuations of which none is this one
all_values_elsewhere : (rank : ℕ → ℕ) (k : ℕ) (vs : Vals) (ks : List ℕ) (d : Delivered) → From rank (suc (rank k)) ks → all_values (delivered_to (Some k) vs d) ks ≡ all_values d ks
all_values_elsewhere rank k vs [] d from = refl
all_values_elsewhere rank k vs (j ∷ ks) d (more, from) = rw (ne_eqb j k other, all_values_elsewhere rank k vs ks d from) refl
  where
    other : j ≢ k
    other e = no_more (subst (λ (i : ℕ). suc (rank k) ≤ rank i) e more)
      where
        no_more : suc (rank k) ≤ rank k → ⊥
        no_more m = omega (arith, m)

-- all values when this one holds values too
all_values_with : (rank : ℕ → ℕ) (k : ℕ) (vs : Vals) (ks : List ℕ) (d : Delivered) → From rank (suc (rank k)) ks → all_values (delivered_to (Some k) vs d) (k ∷ ks) ≡ vs ++ all_values d ks
all_values_with rank k vs ks d from = rw (eq-eqb k k refl, all_values_elsewhere rank k vs ks d from) refl

module _ (symbols : List Symbol) (graphs : List FlowGraph) (number : ℕ) (g : FlowGraph) (facts : Facts) (rank : ℕ → ℕ) (there : slice_get graphs number ≡ Some g) where
  -- what a run comes to that gathers all values of some forms, which these continuations then hold
  abbrev pub GatheredComes : Machine → (low : ℕ) → List ℕ → Spot → Activation → List Waiting → Outcome Vals → Type 0
  GatheredComes m low ks y a ws (Gives vs s) = (d : Delivered) × Keeps rank low None a.delivered d × (all_values d ks ≡ vs) × Reaches symbols graphs m (going (having d (at_spot y a)) ws s)
  GatheredComes m low ks y a ws (Leaves e s) = (d : Delivered) × (p : Spot) × (f : Force) × Keeps rank low None a.delivered d × Reaches symbols graphs m (record { control = Leaving e; here = with_force f (having d (at_spot p a)); waiting = ws; state = s })
  GatheredComes m low ks y a ws (Fails x p s) = (here : Activation) × (waiting : List Waiting) × Reaches symbols graphs m (record { control = Stopped x p; here = here; waiting = waiting; state = s })
  GatheredComes m low ks y a ws (NotYet s) = (m' : Machine) × Reaches symbols graphs m m' × RunsOut symbols graphs s m'

  -- a run that first comes to another machine, and to other values delivered
  gathered_after : (m m' : Machine) (low : ℕ) (ks : List ℕ) (y : Spot) (a : Activation) (d : Delivered) (ws : List Waiting) (o : Outcome Vals) →
      Keeps rank low None a.delivered d → Reaches symbols graphs m m' → GatheredComes m' low ks y (having d a) ws o → GatheredComes m low ks y a ws o
  gathered_after m m' low ks y a d ws (Gives vs s) kept way (d', kept', holds, rest) = (d', keeps_then rank low None a.delivered d d' kept kept', holds, reaches_then symbols graphs way rest)
  gathered_after m m' low ks y a d ws (Leaves e s) kept way (d', p, f, kept', rest) = (d', p, f, keeps_then rank low None a.delivered d d' kept kept', reaches_then symbols graphs way rest)
  gathered_after m m' low ks y a d ws (Fails x p s) kept way (here, waiting, rest) = (here, waiting, reaches_then symbols graphs way rest)
  gathered_after m m' low ks y a d ws (NotYet s) kept way (m'', rest, out) = (m'', reaches_then symbols graphs way rest, out)

  -- a form whose values are kept comes first
  form_then_gathered : (m : Machine) (low j : ℕ) (r y : Spot) (ks : List ℕ) (a : Activation) (ws : List Waiting) (o : Outcome Vals) (follow : Vals → Run Vals) → low ≤ rank j → Comes symbols graphs rank m low (Some j) r none a ws o →
      ((vs : Vals) (s : State) (d : Delivered) → Keeps rank low None a.delivered d → d j ≡ Some vs → GatheredComes (going (having d (at_spot r a)) ws s) low ks y (having d a) ws (follow vs s)) →
      GatheredComes m low ks y a ws (and_then o follow)
  form_then_gathered m low j r y ks a ws (Gives vs s) follow less (d, kept, holds, way) follows =
      gathered_after m (going (having d (at_spot r a)) ws s) low ks y a d ws (follow vs s) (keeps_all rank low j None a.delivered d less kept)
      (subst (λ (t : State). Reaches symbols graphs m (going (having d (at_spot r a)) ws t)) (passes_none vs s) way) (follows vs s d (keeps_all rank low j None a.delivered d less kept) holds)
  form_then_gathered m low j r y ks a ws (Leaves e s) follow less (d, p, f, kept, way) follows = (d, p, f, keeps_all rank low j None a.delivered d less kept, way)
  form_then_gathered m low j r y ks a ws (Fails x p s) follow less came follows = came
  form_then_gathered m low j r y ks a ws (NotYet s) follow less came follows = came

  -- the state when so many values are kept
  abbrev with_held : ℕ → State → State
  with_held n s = record s { counts = record s.counts { held = max s.counts.held n } }

  -- values are kept
  keeps_there : (pl : Place) (j : ℕ) (exits : List ℕ) (p : Spot) (a : Activation) (ws : List Waiting) (s : State) (vs : Vals) → a.graph ≡ number → Unasserted g j → a.delivered j ≡ Some vs →
      Here g p (kind.Entry (extent.Keep j) exits) None pl 0 none →
      step symbols graphs (going (at_spot p a) ws s) ≡ going (at_spot (next p) (with_force (keeping (length vs) a.force) (having (without_all (j ∷ []) a.delivered) a))) (Keeping vs a.force ∷ ws) (with_held (a.force.kept + length vs) s)
  unfolding box_before test_operands test_all hold counting change pure ◌>>=◌
  keeps_there pl j exits p a ws s vs at free holds (b, here) =
      runs_there symbols graphs number g facts rank there p _ a ws s at here ∙ rw (free, holds) (ap (λ (t : State). going (at_spot (next p) (with_force (keeping (length vs) a.force) (having (without_all (j ∷ []) a.delivered) a))) (Keeping vs a.force ∷ ws) (with_held (a.force.kept + length vs) t)) (spent_none s))

  -- kept values are delivered
  releases_there : (pl : Place) (entry : Option ℕ) (k : ℕ) (p : Spot) (a : Activation) (ws : List Waiting) (s : State) (vs : Vals) (f : Force) → a.graph ≡ number → Here g p (kind.Exit way.Release entry) (Some k) pl 0 none →
      step symbols graphs (going (at_spot p a) (Keeping vs f ∷ ws) s) ≡ going (at_spot (next p) (with_force f (having (delivered_to (Some k) vs a.delivered) a))) ws s
  unfolding box_before test_operands delivered_by deliver_more boxes_more counting change pure ◌>>=◌
  releases_there pl entry k p a ws s vs f at (b, here) =
      runs_there symbols graphs number g facts rank there p _ a (Keeping vs f ∷ ws) s at here
      ∙ ap (λ (t : State). going (at_spot (next p) (with_force f (having (delivered_to (Some k) vs a.delivered) a))) ws t) (ap (passed_on none vs) (spent_none s) ∙ passes_none vs s)

  -- kept values, the others are gathered, and then a node delivers the kept ones
  then_released : (m : Machine) (low k : ℕ) (ks : List ℕ) (r : Spot) (pl : Place) (entry : Option ℕ) (n : ℕ) (a : Activation) (ws : List Waiting) (vs : Vals) (o : Outcome Vals) → low ≤ rank k → From rank (suc (rank k)) ks → a.graph ≡ number →
      Here g r (kind.Exit way.Release entry) (Some k) pl 0 none →
      GatheredComes m low ks r (with_force (keeping n a.force) a) (Keeping vs a.force ∷ ws) o →
      GatheredComes m low (k ∷ ks) (next r) a ws (and_then o (λ us. pure_run (vs ++ us)))
  unfolding pure_run
  then_released m low k ks r pl entry n a ws vs (Gives us s) less from at here (d, kept, holds, way) = (
    delivered_to (Some k) vs d,
    keeps_then rank low None a.delivered d (delivered_to (Some k) vs d) kept (keeps_all rank low k None d (delivered_to (Some k) vs d) less (delivered_keeps rank low (Some k) vs d)),
    all_values_with rank k vs ks d from ∙ ap (λ (us : Vals). vs ++ us) holds,
    reaches_then symbols graphs way (1, releases_there pl entry k r (having d (with_force (keeping n a.force) a)) ws s vs a.force at here),
  )
  then_released m low k ks r pl entry n a ws vs (Leaves e s) less from at here (d, p, f, kept, way) =
      (d, p, f, kept, reaches_then symbols graphs way (one_step symbols graphs _))
  then_released m low k ks r pl entry n a ws vs (Fails x p s) less from at here came = came
  then_released m low k ks r pl entry n a ws vs (NotYet s) less from at here came = came

  -- continuations that are released have ranks from here on
  from_released : (low more : ℕ) (pl : Place) (ks : List ℕ) (p q : Spot) → low ≤ more → ReleaseAll g facts rank more pl ks p q → From rank low ks
  from_released low more pl [] p q le same = tt
  from_released low more pl (k ∷ ks) p q le (r, entry, less, others_released, here, end) =
      (omega (arith, le, less), from_released low (suc (rank k)) pl ks p r (omega (arith, le, less)) others_released)

  -- all values are there, and then what follows with them
  gathered_then : (m : Machine) (low more : ℕ) (ks : List ℕ) (y q : Spot) (to : Option ℕ) (l : Passes) (a : Activation) (ws : List Waiting) (o : Outcome Vals) (follow : Vals → Run Vals) → low ≤ more → GatheredComes m more ks y a ws o →
      ((vs : Vals) (s : State) (d : Delivered) → Keeps rank more None a.delivered d → all_values d ks ≡ vs → Comes symbols graphs rank (going (having d (at_spot y a)) ws s) low to q l (having d a) ws (follow vs s)) →
      Comes symbols graphs rank m low to q l a ws (and_then o follow)
  gathered_then m low more ks y q to l a ws (Gives vs s) follow le (d, kept, holds, way) follows =
      comes_having symbols graphs rank m low low to q l a d ws (follow vs s) (omega arith) (keeps_nowhere rank low to a.delivered d (keeps_fewer rank low more None a.delivered d le kept))
      (comes_after symbols graphs rank m (going (having d (at_spot y a)) ws s) low to q l (having d a) ws (follow vs s) way (follows vs s d kept holds))
  gathered_then m low more ks y q to l a ws (Leaves e s) follow le (d, p, f, kept, way) follows =
      (d, p, f, keeps_nowhere rank low to a.delivered d (keeps_fewer rank low more None a.delivered d le kept), way)
  gathered_then m low more ks y q to l a ws (Fails x p s) follow le came follows = came
  gathered_then m low more ks y q to l a ws (NotYet s) follow le came follows = came

  module _ (call : Call) (limit : ℕ) where
    abbrev All : Cores → Type 0
    All es = AllDo symbols graphs number g rank there facts call limit false es

    -- All values of some forms, each kept while the others come, and then delivered.
    gathered_does : (pl : Place) (es : Cores) (low more : ℕ) (ks : List ℕ) (p r y : Spot) (f : Force) (a : Activation) (ws : List Waiting) (s : State) → low ≤ more → All es → GatheredStandAt g facts rank pl es low p r → SameLength es ks →
        ReleaseAll g facts rank more pl ks r y → a.graph ≡ number → a.force ≡ f → GatheredComes (going (at_spot p a) ws s) low ks y a ws (gathered call limit (around facts false false f) es s)
    unfolding gathered pure_run ◌>>=ʳ◌ perform hold counting change
    gathered_does pl no_core low more [] p r y f a ws s le parts same alike ends at force =
        (a.delivered, keeps_same rank low None a.delivered, refl, subst (λ (x : Spot). Reaches symbols graphs (going (at_spot p a) ws s) (going (at_spot x a) ws s)) (same ∙ ends) (stays symbols graphs _))
    gathered_does pl no_core low more (k ∷ ks) p r y f a ws s le parts same alike ends at force = absurd alike
    gathered_does pl (core e es) low more [] p r y f a ws s le parts stands alike ends at force = absurd alike
    gathered_does pl (core e es) low more (k ∷ ks) p r y f a ws s le (part, parts) (j, exits, x, free, stands, here, others_stand) alike (z, entry, less, others_released, release, end) at force =
        subst (λ (x : Spot). GatheredComes (going (at_spot p a) ws s) low (k ∷ ks) x a ws (gathered call limit (around facts false false f) (core e es) s)) (sym end)
        (form_then_gathered (going (at_spot p a) ws s) low j x (next z) (k ∷ ks) a ws (eval call limit (around facts false false f) e s) (λ vs t. and_then (rest vs f t) (λ us. pure_run (vs ++ us))) free.0
        (subst (λ (u : State). Comes symbols graphs rank (going (at_spot p a) ws s) low (Some j) x none a ws (eval call limit (around facts false false f) e u)) (spent_none s) (part 0 none low (Some j) p x stands f a ws s at force))
        (λ vs t d kept holds. gathered_after (going (having d (at_spot x a)) ws t) (going (at_spot (next x) (within vs d)) (Keeping vs a.force ∷ ws) (with_held (a.force.kept + length vs) t)) low (k ∷ ks) (next z) (having d a) (without_all (j ∷ []) d) ws (and_then (rest vs f t) (λ us. pure_run (vs ++ us)))
        (taken_keeps rank low None (j ∷ []) d (free.0, tt)) (1, keeps_there pl j exits x (having d a) ws t vs at free.1 holds here)
        (then_released (going (at_spot (next x) (within vs d)) (Keeping vs a.force ∷ ws) (with_held (a.force.kept + length vs) t)) low k ks z pl entry (length vs) (having (without_all (j ∷ []) d) a) ws vs (rest vs f t) (omega (arith, le, less))
        (from_released (suc (rank k)) (suc (rank k)) pl ks r z (omega arith) others_released) at release
        (subst (λ (h : Force). GatheredComes (going (at_spot (next x) (within vs d)) (Keeping vs a.force ∷ ws) (with_held (a.force.kept + length vs) t)) low ks z (within vs d) (Keeping vs a.force ∷ ws) (rest vs h t)) force
        (gathered_does pl es low (suc (rank k)) ks (next x) r z (keeping (length vs) a.force) (within vs d) (Keeping vs a.force ∷ ws) (with_held (a.force.kept + length vs) t) (omega (arith, le, less)) parts others_stand alike others_released at refl)))))
      where
        within : Vals → Delivered → Activation
        within vs d = with_force (keeping (length vs) a.force) (having (without_all (j ∷ []) d) a)

        rest : Vals → Force → Run Vals
        rest vs h t = gathered call limit (around facts false false (keeping (length vs) h)) es (with_held (h.kept + length vs) t)

  -- nothing is asserted on these
  untested_free : (h : Force) (ks : List ℕ) (d : Delivered) (s : State) → AllFree g facts rank ks → test_operands g h d ks s ≡ Gave tt s
  unfolding test_operands test_all pure ◌>>=◌
  untested_free h [] d s free = refl
  untested_free h (k ∷ ks) d s (free, others_free) = rw free (untested_free h ks d s others_free)

  module _ (call : Call) (limit : ℕ) (calls_do : CallsDo symbols graphs call) where
    -- the function and all values are there, and are called
    values_called : (t w : Bool) (pl : Place) (l : Passes) (low k : ℕ) (ks : List ℕ) (to : Option ℕ) (y : Spot) (f : Force) (a : Activation) (ws : List Waiting) (u : State) (v : Val) (vs : Vals) → From rank low (k ∷ ks) → Unasserted g k → AllFree g facts rank ks →
        Here g y (kind.MvCombination k ks t) to pl 0 (through w l) → a.graph ≡ number → a.force ≡ f → value_at a.delivered k ≡ v → all_values a.delivered ks ≡ vs →
        Comes symbols graphs rank (going (at_spot y a) ws u) low to (next y) l a ws (and_then (call_with_values call (around facts t w f) pl v vs u) (λ us. perform (deliver w us)))
    unfolding call_with_values funcall perform ◌>>=ʳ◌ box_before test_operands test_all pure ◌>>=◌
    values_called t w pl l low k ks to y f a ws u v vs from free all_free (b, here) at force holds all_held =
        subst (Comes symbols graphs rank (going (at_spot y a) ws u) low to (next y) l a ws) (called (not_too_many f pl vs u))
        (node_calls symbols graphs number g facts rank there call limit calls_do low to y t w 0 l (k ∷ ks) f a ws u (kind.MvCombination k ks t) b pl (and_then_effect (not_too_many f pl vs u) (λ _. designated f pl v)) (λ x. x) (λ x. vs) from at force here
        (rw (free, spent_none u, untested_free a.force ks a.delivered u all_free, force, holds, all_held) refl))
      where
        called : (r : Ended (Unit {0})) → and_then (outcome (and_then_effect r (λ _. designated f pl v))) (λ x u. and_then (call_value call (around facts t w f) vs x u) (λ us. perform (deliver w us)))
            ≡ and_then (and_then (outcome r) (λ _ u. and_then (outcome (designated f pl v u)) (call_value call (around facts t w f) vs))) (λ us. perform (deliver w us))
        called (Gave x u) = regroup (outcome (designated f pl v u)) (call_value call (around facts t w f) vs) (λ us. perform (deliver w us))
        called (Left e u) = refl
        called (Failed x p u) = refl

    pub mv_call_does : (t w : Bool) (pl : Place) (e : Core) (es : Cores) (n : ℕ) (l : Passes) (low : ℕ) (to : Option ℕ) (p q : Spot) → Everywhere symbols graphs number g rank there facts call limit false false e → AllDo symbols graphs number g rank there facts call limit false es →
        StandsAt g facts rank t w (MvCall pl e es) n l low to p q → Does symbols graphs number g facts rank there call limit t w (MvCall pl e es) n l low to p q
    unfolding eval first pure_run ◌>>=ʳ◌
    mv_call_does t w pl e es n l low to p q part parts (k, ks, r, x, y, free, stands, gathers, alike, released, all_free, here, end) f a ws s at force =
        visited symbols graphs number g facts rank there call limit calls_do (going (at_spot p a) ws s) low to q (next y) t w n l f a ws s (first (eval call limit (around facts false false f) e) >>=ʳ (λ v. gathered call limit (around facts false false f) es >>=ʳ call_with_values call (around facts t w f) pl v)) end
        (subst (Comes symbols graphs rank (going (at_spot p a) ws s) low to (next y) l a ws) (grouped (eval call limit (around facts false false f) e (spent (n + 1) s)))
        (comes_then_from symbols graphs number g rank there (going (at_spot p a) ws s) low low k r (next y) to l a ws (eval call limit (around facts false false f) e (spent (n + 1) s)) (λ us u. and_then (gathered call limit (around facts false false f) es u) (finished (first_of_values us)))
        (omega arith) free.0 (part (n + 1) none low (Some k) p r stands f a ws s at force)
        (λ us u d kept holds. gathered_then (going (having d (at_spot r a)) ws u) low (suc (rank k)) ks y (next y) to l (having d a) ws (gathered call limit (around facts false false f) es u) (finished (first_of_values us)) (omega (arith, free.0))
        (gathered_does call limit pl es (suc (rank k)) (suc (rank k)) ks r x y f (having d a) ws u (omega arith) parts gathers alike released at force)
        (λ vs u' d' kept' all_held. values_called t w pl l low k ks to y f (having d' a) ws u' (first_of_values us) vs
        (free.0, from_released low (suc (rank k)) pl ks x y (omega (arith, free.0)) released) free.1 all_free here at force (rw (kept' k (omega arith) (none-some k), holds) refl) all_held))))
      where
        finished : Val → Vals → Run Vals
        finished v vs u = and_then (call_with_values call (around facts t w f) pl v vs u) (λ us. perform (deliver w us))

        grouped : (o : Outcome Vals) → and_then o (λ us u. and_then (gathered call limit (around facts false false f) es u) (finished (first_of_values us)))
            ≡ and_then (and_then (and_then o (λ us. pure_run (first_of_values us))) (λ v u. and_then (gathered call limit (around facts false false f) es u) (call_with_values call (around facts t w f) pl v))) (λ us. perform (deliver w us))
        grouped (Gives us u) = regroup (gathered call limit (around facts false false f) es u) (call_with_values call (around facts t w f) pl (first_of_values us)) (λ us. perform (deliver w us))
        grouped (Leaves e u) = refl
        grouped (Fails x pl u) = refl
        grouped (NotYet u) = refl
