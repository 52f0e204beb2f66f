-- Forms whose values are kept while another runs do in their graphs what they do: UNWIND-PROTECT and MULTIPLE-VALUE-PROG1.
use Rattle.std.proofs.Common.{◌≡◌, ℕ, ◌+◌, refl, sym, ap, subst, ◌∙◌, arith, Bool, true, false, List, [], ◌∷◌, length, Option, Some, None}
use Rattle.std.proofs.lemmas.Option.{none-some}
use Rattle.std.specs.Prelude.{slice_get, max}
use Rattle.lisp_base.specs.declared.values.Place.{Place}
use Rattle.core_form.specs.Tree.{Core, Unwind, MvProg1}
use Rattle.core_form.specs.Facts.{Facts}
use Rattle.core_form.specs.State.{Symbol, State, Exit}
use Rattle.core_form.specs.Effect.{◌>>=◌, pure, change, counting, spend, leave, boxes_more, deliver_more, hold, stack_at}
use Rattle.core_form.specs.Force.{Vals, Force, keeping, deeper}
use Rattle.core_form.specs.Step.{deliver}
use Rattle.core_form.specs.Run.{Outcome, Gives, Leaves, Fails, NotYet, Run, and_then, perform, visit, cleaned, guarded, ◌>>=◌ as ◌>>=ʳ◌, pure as pure_run}
use Rattle.core_form.specs.Eval.{Call, eval}
use Rattle.icr_graph.specs.declared.nodes.NodeKind.TheVariants as kind
use Rattle.icr_graph.specs.declared.nodes.Extent.TheVariants as extent
use Rattle.icr_graph.specs.declared.nodes.Leaving.TheVariants as way
use Rattle.icr_graph.specs.Plain.{FlowGraph}
use Rattle.graph_meaning.specs.Machine.{Delivered, without_all, delivered_to, Activation, Waiting, Guarding, Keeping, Giving, Going_on, Leaving, Machine, going, with_force}
use Rattle.graph_meaning.specs.Effects.{delivered_by, test_operands, test_all, box_before}
use Rattle.graph_meaning.specs.Extents.{spent, leave_on, on_its_way}
use Rattle.graph_meaning.specs.Running.{step}
use Rattle.form_graphs.specs.Spots.{Spot, Unasserted, next, first_of, Passes, none, through, Here}
use Rattle.form_graphs.specs.Standing.{StandsAt, ExitsAt, IsFree}
use Rattle.form_graphs.specs.Landing.{at_spot, having, passed_on, Reaches, Keeps, Comes}
use Rattle.form_graphs.proofs.Coming.{one_step, reaches_then, comes_after, comes_then, comes_having, keeps_all, keeps_then, delivered_keeps, delivered_holds, delivered_once, passes_through, passes_none, taken_keeps, spent_both, spent_none}
use Rattle.form_graphs.specs.Calling.{around}
use Rattle.form_graphs.proofs.Leaves.{runs_there, Does}

-- the state when so many values are kept
pub held_at : ℕ → State → State
held_at n s = record s { counts = record s.counts { held = max s.counts.held n } }

-- the state when so many stack words are there
pub stacked_at : ℕ → State → State
stacked_at n s = record s { counts = record s.counts { stack_words = max s.counts.stack_words n } }

-- what goes nowhere keeps all
pub keeps_nowhere : (rank : ℕ → ℕ) (low : ℕ) (to : Option ℕ) (d d' : Delivered) → Keeps rank low None d d' → Keeps rank low to d d'
keeps_nowhere rank low to d d' kept j less other = kept j less (λ e. absurd (none-some j e))

module _ (symbols : List Symbol) (graphs : List FlowGraph) (number : ℕ) (g : FlowGraph) (facts : Facts) (rank : ℕ → ℕ) (there : slice_get graphs number ≡ Some g) where
  -- ---- nodes

  -- values are kept
  opens_keep : (pl : Place) (k : ℕ) (exits : List ℕ) (p : Spot) (a : Activation) (ws : List Waiting) (s : State) (vs : Vals) →
      a.graph ≡ number → Unasserted g k → a.delivered k ≡ Some vs → Here g p (kind.Entry (extent.Keep k) exits) None pl 0 none →
      step symbols graphs (going (at_spot p a) ws s) ≡ going (at_spot (next p) (with_force (keeping (length vs) a.force) (having (without_all (k ∷ []) a.delivered) a))) (Keeping vs a.force ∷ ws) (held_at (a.force.kept + length vs) s)
  unfolding held_at box_before test_operands test_all hold counting change pure ◌>>=◌
  opens_keep pl k exits p a ws s vs at free holds (number_of, here) =
      runs_there symbols graphs number g facts rank there p _ a ws s at here ∙ rw (free, holds) (ap (λ (t : State). going (at_spot (next p) (with_force (keeping (length vs) a.force) (having (without_all (k ∷ []) a.delivered) a))) (Keeping vs a.force ∷ ws) (held_at (a.force.kept + length vs) t)) (spent_none s))

  -- kept values are delivered
  releases_there : (pl : Place) (entry : Option ℕ) (to : Option ℕ) (w : Bool) (l : Passes) (p : Spot) (a : Activation) (ws : List Waiting) (s : State) (vs : Vals) (f : Force) →
      a.graph ≡ number → Here g p (kind.Exit way.Release entry) to pl 0 (through w l) →
      step symbols graphs (going (at_spot p a) (Keeping vs f ∷ ws) s) ≡ going (at_spot (next p) (with_force f (having (delivered_to to vs a.delivered) a))) ws (passed_on l vs (delivered_once w vs s))
  unfolding box_before test_operands delivered_by deliver_more boxes_more counting change pure ◌>>=◌
  releases_there pl entry to w l p a ws s vs f at (number_of, here) =
      runs_there symbols graphs number g facts rank there p _ a (Keeping vs f ∷ ws) s at here
      ∙ ap (λ (t : State). going (at_spot (next p) (with_force f (having (delivered_to to vs a.delivered) a))) ws t) (ap (passed_on (through w l) vs) (spent_none s) ∙ passes_through w l vs s)

  -- the extent of a guarded form begins
  opens_guarded : (pl : Place) (cleanup : ℕ) (exits : List ℕ) (c : ℕ) (p : Spot) (a : Activation) (ws : List Waiting) (s : State) →
      a.graph ≡ number → Here g p (kind.Entry (extent.Guarded cleanup) exits) None pl c none →
      step symbols graphs (going (at_spot p a) ws s) ≡ going (at_spot (next p) (with_force (deeper 8 a.force) a)) (Guarding cleanup a.force ∷ ws) (stacked_at (a.force.words + 8) (spent c s))
  unfolding stacked_at box_before test_operands stack_at counting change pure ◌>>=◌
  opens_guarded pl cleanup exits c p a ws s at (number_of, here) = runs_there symbols graphs number g facts rank there p _ a ws s at here

  -- a guarded form has ended
  guards_there : (pl : Place) (k cleanup : ℕ) (p : Spot) (a : Activation) (ws : List Waiting) (s : State) (vs : Vals) (f : Force) →
      a.graph ≡ number → Unasserted g k → a.delivered k ≡ Some vs → ExitsAt g facts rank p (way.Guard k) pl →
      step symbols graphs (going (at_spot p a) (Guarding cleanup f ∷ ws) s) ≡ going (at_spot (first_of cleanup) (with_force (keeping (length vs) f) (having (without_all (k ∷ []) a.delivered) a))) (Giving vs f ∷ ws) (held_at (f.kept + length vs) s)
  unfolding held_at box_before test_operands test_all hold counting change pure ◌>>=◌
  guards_there pl k cleanup p a ws s vs f at free holds (entry, (number_of, here)) =
      runs_there symbols graphs number g facts rank there p _ a (Guarding cleanup f ∷ ws) s at here
      ∙ rw (free, holds) (ap (λ (t : State). going (at_spot (first_of cleanup) (with_force (keeping (length vs) f) (having (without_all (k ∷ []) a.delivered) a))) (Giving vs f ∷ ws) (held_at (f.kept + length vs) t)) (spent_none s))

  -- a cleanup form has ended, and the values of the guarded one are delivered
  gives_there : (pl : Place) (entry : Option ℕ) (to : Option ℕ) (w : Bool) (l : Passes) (p : Spot) (a : Activation) (ws : List Waiting) (s : State) (vs : Vals) (f : Force) →
      a.graph ≡ number → Here g p (kind.Exit way.Resume entry) to pl 0 (through w l) →
      step symbols graphs (going (at_spot p a) (Giving vs f ∷ ws) s) ≡ going (at_spot (next p) (with_force f (having (delivered_to to vs a.delivered) a))) ws (passed_on l vs (delivered_once w vs s))
  unfolding box_before test_operands delivered_by deliver_more boxes_more counting change pure ◌>>=◌
  gives_there pl entry to w l p a ws s vs f at (number_of, here) =
      runs_there symbols graphs number g facts rank there p _ a (Giving vs f ∷ ws) s at here
      ∙ ap (λ (t : State). going (at_spot (next p) (with_force f (having (delivered_to to vs a.delivered) a))) ws t) (ap (passed_on (through w l) vs) (spent_none s) ∙ passes_through w l vs s)

  -- or the exit goes on that left it
  goes_on_there : (pl : Place) (entry : Option ℕ) (to : Option ℕ) (l : Passes) (p : Spot) (a : Activation) (ws : List Waiting) (s : State) (e : Exit) (f : Force) →
      a.graph ≡ number → Here g p (kind.Exit way.Resume entry) to pl 0 l →
      step symbols graphs (going (at_spot p a) (Going_on e f ∷ ws) s) ≡ record { control = Leaving e; here = with_force f (at_spot p a); waiting = ws; state = s }
  unfolding box_before test_operands pure ◌>>=◌
  goes_on_there pl entry to l p a ws s e f at (number_of, here) =
      runs_there symbols graphs number g facts rank there p _ a (Going_on e f ∷ ws) s at here
      ∙ ap (λ (t : State). record { control = Leaving e; here = with_force f (at_spot p a); waiting = ws; state = t }) (spent_none s)

  -- an exit comes to a cleanup form
  left_by : (e : Exit) (b : Activation) (ws : List Waiting) (cleanup : ℕ) (f : Force) (s : State) →
      leave_on e b (Guarding cleanup f ∷ ws) s ≡ going (at_spot (first_of cleanup) (with_force (keeping (length e.values) f) b)) (Going_on e f ∷ ws) (held_at (f.kept + length e.values) (spent 1 s))
  unfolding held_at hold counting change
  left_by e b ws cleanup f s = refl

  -- ---- what waits

  -- With kept values waiting a form comes to its end: they are delivered. An exit passes them.
  kept_comes : (waits : Waiting) (vs : Vals) (w : Bool) (l : Passes) (low : ℕ) (to : Option ℕ) (x : Spot) (f : Force) (a : Activation) (ws : List Waiting) (m : Machine) (o : Outcome Vals) →
      ((b : Delivered) (s : State) → step symbols graphs (going (at_spot x (with_force f (having b a))) (waits ∷ ws) s) ≡ going (at_spot (next x) (having (delivered_to to vs b) a)) ws (passed_on l vs (delivered_once w vs s))) →
      ((e : Exit) (b : Activation) (s : State) → leave_on e b (waits ∷ ws) s ≡ on_its_way e b ws s) →
      Comes symbols graphs rank m low None x none (with_force f a) (waits ∷ ws) o →
      Comes symbols graphs rank m low to (next x) l a ws (and_then (and_then o (λ us s. Gives vs s)) (λ us. perform (deliver w us)))
  unfolding perform deliver deliver_more boxes_more counting change pure ◌>>=◌
  kept_comes waits vs w l low to x f a ws m (Gives us s) delivers passes (d, kept, holds, way) = (
    delivered_to to vs d,
    keeps_then rank low to a.delivered d (delivered_to to vs d) (keeps_nowhere rank low to a.delivered d kept) (delivered_keeps rank low to vs d),
    delivered_holds to vs d,
    reaches_then symbols graphs way (1, delivers d (passed_on none us s) ∙ ap (λ (t : State). going (having (delivered_to to vs d) (at_spot (next x) a)) ws (passed_on l vs (delivered_once w vs t))) (passes_none us s)),
  )
  kept_comes waits vs w l low to x f a ws m (Leaves e s) delivers passes (d, p, h, kept, way) =
      (d, p, h, keeps_nowhere rank low to a.delivered d kept, reaches_then symbols graphs way (1, passes e (with_force h (having d (at_spot p (with_force f a)))) s))
  kept_comes waits vs w l low to x f a ws m (Fails e p s) delivers passes came = came
  kept_comes waits vs w l low to x f a ws m (NotYet s) delivers passes came = came

  -- When a cleanup form has ended that ran because of an exit, the exit goes on.
  going_on_comes : (pl : Place) (entry : Option ℕ) (e : Exit) (l l' : Passes) (low : ℕ) (to : Option ℕ) (q x : Spot) (f : Force) (a : Activation) (ws : List Waiting) (m : Machine) (o : Outcome Vals) (more : Vals → Run Vals) →
      a.graph ≡ number → Here g x (kind.Exit way.Resume entry) to pl 0 l' →
      Comes symbols graphs rank m low None x none (with_force f a) (Going_on e a.force ∷ ws) o →
      Comes symbols graphs rank m low to q l a ws (and_then (and_then o (λ us s. Leaves e s)) more)
  going_on_comes pl entry e l l' low to q x f a ws m (Gives us s) more at here (d, kept, holds, way) = (
    d,
    x,
    a.force,
    keeps_nowhere rank low to a.delivered d kept,
    reaches_then symbols graphs way
        (1, goes_on_there pl entry to l' x (having d (with_force f a)) ws (passed_on none us s) e a.force at here ∙ ap (λ (t : State). record { control = Leaving e; here = with_force a.force (having d (at_spot x a)); waiting = ws; state = t }) (passes_none us s)),
  )
  going_on_comes pl entry e l l' low to q x f a ws m (Leaves e' s) more at here (d, p, h, kept, way) =
      (d, p, h, keeps_nowhere rank low to a.delivered d kept, reaches_then symbols graphs way (1, refl))
  going_on_comes pl entry e l l' low to q x f a ws m (Fails y p s) more at here came = came
  going_on_comes pl entry e l l' low to q x f a ws m (NotYet s) more at here came = came

  module _ (call : Call) (limit : ℕ) where
    -- values are kept, and the second form runs
    mv_prog1_second : (w : Bool) (pl : Place) (c : Core) (l : Passes) (low : ℕ) (to : Option ℕ) (r x : Spot) (f : Force) (k : ℕ) (exits : List ℕ) (entry : Option ℕ) (a : Activation) (ws : List Waiting) (s : State) (vs : Vals) →
        (StandsAt g facts rank false true c 0 none low None (next r) x → Does symbols graphs number g facts rank there call limit false true c 0 none low None (next r) x) →
        a.graph ≡ number → a.force ≡ f → IsFree g facts rank low k → a.delivered k ≡ Some vs → Here g r (kind.Entry (extent.Keep k) exits) None pl 0 none →
        StandsAt g facts rank false true c 0 none low None (next r) x → Here g x (kind.Exit way.Release entry) to pl 0 (through w l) →
        Comes symbols graphs rank (going (at_spot r a) ws s) low to (next x) l a ws (and_then (and_then (eval call limit (around facts false true (keeping (length vs) f)) c (held_at (f.kept + length vs) s)) (λ us t. Gives vs t)) (λ us. perform (deliver w us)))
    mv_prog1_second w pl c l low to r x f k exits entry a ws s vs part at force free holds here body release =
        comes_after symbols graphs rank (going (at_spot r a) ws s) (step symbols graphs (going (at_spot r a) ws s)) low to (next x) l a ws _
        (one_step symbols graphs (going (at_spot r a) ws s))
        (comes_having symbols graphs rank _ low low to (next x) l a (without_all (k ∷ []) a.delivered) ws _ (omega arith) (taken_keeps rank low to (k ∷ []) a.delivered (free.0, tt))
        (rw (opens_keep pl k exits r a ws s vs at free.1 holds here)
        (kept_comes (Keeping vs a.force) vs w l low to x (keeping (length vs) a.force) (having (without_all (k ∷ []) a.delivered) a) ws _ _
        (λ b t. releases_there pl entry to w l x (with_force (keeping (length vs) a.force) (having b a)) ws t vs a.force at release)
        (λ e b t. refl)
        (subst (λ (h : Force). Comes symbols graphs rank (inner (held_at (a.force.kept + length vs) s)) low None x none within (Keeping vs a.force ∷ ws) (evaluated h (held_at (h.kept + length vs) s))) force
        (subst (λ (u : State). Comes symbols graphs rank (inner (held_at (a.force.kept + length vs) s)) low None x none within (Keeping vs a.force ∷ ws) (evaluated a.force u)) (spent_none (held_at (a.force.kept + length vs) s))
        (part body (keeping (length vs) a.force) within (Keeping vs a.force ∷ ws) (held_at (a.force.kept + length vs) s) at refl))))))
      where
        within : Activation
        within = with_force (keeping (length vs) a.force) (having (without_all (k ∷ []) a.delivered) a)

        inner : State → Machine
        inner u = going (at_spot (next r) within) (Keeping vs a.force ∷ ws) u

        evaluated : Force → Run Vals
        evaluated h = eval call limit (around facts false true (keeping (length vs) h)) c

    pub mv_prog1_does : (t w : Bool) (pl : Place) (e c : Core) (n : ℕ) (l : Passes) (low : ℕ) (to : Option ℕ) (p q : Spot) →
        ((j : ℕ) (r : Spot) → StandsAt g facts rank false false e (n + 1) none low (Some j) p r → Does symbols graphs number g facts rank there call limit false false e (n + 1) none low (Some j) p r) →
        ((r x : Spot) → StandsAt g facts rank false true c 0 none low None r x → Does symbols graphs number g facts rank there call limit false true c 0 none low None r x) →
        StandsAt g facts rank t w (MvProg1 pl e c) n l low to p q → Does symbols graphs number g facts rank there call limit t w (MvProg1 pl e c) n l low to p q
    unfolding eval visit perform hold spend counting change pure_run ◌>>=ʳ◌ held_at
    mv_prog1_does t w pl e c n l low to p q first_part second_part (k, exits, r, x, entry, free, stands, here, body, release, end) f a ws s at force =
        subst (λ (y : Spot). Comes symbols graphs rank (going (at_spot p a) ws s) low to y l a ws (whole (eval call limit (around facts false false f) e (spent 1 (spent n s))))) (sym end)
        (subst (Comes symbols graphs rank (going (at_spot p a) ws s) low to (next x) l a ws) (regroup (eval call limit (around facts false false f) e (spent 1 (spent n s))))
        (comes_then symbols graphs rank (going (at_spot p a) ws s) low k r (next x) to l a ws (eval call limit (around facts false false f) e (spent 1 (spent n s))) _ free.0
        (subst (λ (u : State). Comes symbols graphs rank (going (at_spot p a) ws s) low (Some k) r none a ws (eval call limit (around facts false false f) e u)) (sym (spent_both n 1 s)) (first_part k r stands f a ws s at force))
        (λ vs s1 d kept holds. mv_prog1_second w pl c l low to r x f k exits entry (having d a) ws s1 vs (second_part (next r) x) at force free holds here body release)))
      where
        whole : Outcome Vals → Outcome Vals
        whole o = and_then (and_then o (λ vs. perform (hold (f.kept + length vs)) >>=ʳ (λ _. eval call limit (around facts false true (keeping (length vs) f)) c) >>=ʳ (λ _. pure_run vs))) (λ us. perform (deliver w us))

        regroup : (o : Outcome Vals) → and_then o (λ vs s1. and_then (and_then (eval call limit (around facts false true (keeping (length vs) f)) c (held_at (f.kept + length vs) s1)) (λ us t. Gives vs t)) (λ us. perform (deliver w us))) ≡ whole o
        regroup (Gives vs s) = refl
        regroup (Leaves e s) = refl
        regroup (Fails x pl s) = refl
        regroup (NotYet s) = refl

    -- The guarded form has come to its end, or is left: the cleanup form runs.
    module _ (w : Bool) (pl : Place) (c : Core) (l : Passes) (low : ℕ) (to : Option ℕ) (r x : Spot) (f : Force) (k cleanup : ℕ) (entry : Option ℕ) (a : Activation) (ws : List Waiting) (at : a.graph ≡ number) (force : a.force ≡ f) (free : IsFree g facts rank low k)
        (guards : ExitsAt g facts rank r (way.Guard k) pl) (body : StandsAt g facts rank false true c 0 none low None (first_of cleanup) x) (resume : Here g x (kind.Exit way.Resume entry) to pl 0 (through w l))
        (part : StandsAt g facts rank false true c 0 none low None (first_of cleanup) x → Does symbols graphs number g facts rank there call limit false true c 0 none low None (first_of cleanup) x) where
      abbrev cleans : ℕ → Run Vals
      cleans n t = eval call limit (around facts false true (keeping n f)) c (held_at (f.kept + n) t)

      -- it does what it does, whatever waits
      cleanup_comes : (waits : Waiting) (n : ℕ) (d : Delivered) (s : State) →
          Comes symbols graphs rank (going (at_spot (first_of cleanup) (with_force (keeping n a.force) (having d a))) (waits ∷ ws) (held_at (a.force.kept + n) s)) low None x none (with_force (keeping n a.force) (having d a)) (waits ∷ ws) (cleans n s)
      cleanup_comes waits n d s =
          subst (λ (h : Force). Comes symbols graphs rank (inner (held_at (a.force.kept + n) s)) low None x none within (waits ∷ ws) (evaluated h (held_at (h.kept + n) s))) force
          (subst (λ (u : State). Comes symbols graphs rank (inner (held_at (a.force.kept + n) s)) low None x none within (waits ∷ ws) (evaluated a.force u)) (spent_none (held_at (a.force.kept + n) s))
          (part body (keeping n a.force) within (waits ∷ ws) (held_at (a.force.kept + n) s) at refl))
        where
          within : Activation
          within = with_force (keeping n a.force) (having d a)

          inner : State → Machine
          inner u = going (at_spot (first_of cleanup) within) (waits ∷ ws) u

          evaluated : Force → Run Vals
          evaluated h = eval call limit (around facts false true (keeping n h)) c

      guarded_gives : (vs : Vals) (d : Delivered) (s : State) → d k ≡ Some vs →
          Comes symbols graphs rank (going (at_spot r (with_force (deeper 8 a.force) (having d a))) (Guarding cleanup a.force ∷ ws) s) low to (next x) l (having d a) ws (and_then (and_then (cleans (length vs) s) (λ us t. Gives vs t)) (λ us. perform (deliver w us)))
      guarded_gives vs d s holds =
          comes_after symbols graphs rank _ (step symbols graphs (going (at_spot r (with_force (deeper 8 a.force) (having d a))) (Guarding cleanup a.force ∷ ws) s)) low to (next x) l (having d a) ws _
          (one_step symbols graphs _)
          (comes_having symbols graphs rank _ low low to (next x) l (having d a) (without_all (k ∷ []) d) ws _ (omega arith) (taken_keeps rank low to (k ∷ []) d (free.0, tt))
          (rw (guards_there pl k cleanup r (with_force (deeper 8 a.force) (having d a)) ws s vs a.force at free.1 holds guards)
          (kept_comes (Giving vs a.force) vs w l low to x (keeping (length vs) a.force) (having (without_all (k ∷ []) d) a) ws _ _
          (λ b t. gives_there pl entry to w l x (with_force (keeping (length vs) a.force) (having b a)) ws t vs a.force at resume)
          (λ e b t. refl)
          (cleanup_comes (Giving vs a.force) (length vs) (without_all (k ∷ []) d) s))))

      guarded_leaves : (q : Spot) (e : Exit) (d : Delivered) (p : Spot) (h : Force) (s : State) (more : Vals → Run Vals) →
          Comes symbols graphs rank (record { control = Leaving e; here = with_force h (having d (at_spot p (with_force (deeper 8 a.force) a))); waiting = Guarding cleanup a.force ∷ ws; state = s }) low to q l (having d a) ws (and_then (and_then (cleans (length e.values) (spent 1 s)) (λ us t. Leaves e t)) more)
      guarded_leaves q e d p h s more =
          comes_after symbols graphs rank _ (going (at_spot (first_of cleanup) (with_force (keeping (length e.values) a.force) (having d a))) (Going_on e a.force ∷ ws) (held_at (a.force.kept + length e.values) (spent 1 s))) low to q l (having d a) ws _
          (1, cleans_up)
          (going_on_comes pl entry e l (through w l) low to q x (keeping (length e.values) a.force) (having d a) ws _ _ more at resume (cleanup_comes (Going_on e a.force) (length e.values) d (spent 1 s)))
        where
          cleans_up : leave_on e (with_force h (having d (at_spot p (with_force (deeper 8 a.force) a)))) (Guarding cleanup a.force ∷ ws) s ≡ going (at_spot (first_of cleanup) (with_force (keeping (length e.values) a.force) (having d a))) (Going_on e a.force ∷ ws) (held_at (a.force.kept + length e.values) (spent 1 s))
          cleans_up = left_by e (with_force h (having d (at_spot p (with_force (deeper 8 a.force) a)))) ws cleanup a.force s

      guarded_comes : (m : Machine) (o : Outcome Vals) → Comes symbols graphs rank m low (Some k) r none (with_force (deeper 8 a.force) a) (Guarding cleanup a.force ∷ ws) o →
          Comes symbols graphs rank m low to (next x) l a ws (and_then (cleaned cleans o) (λ us. perform (deliver w us)))
      unfolding spend counting change leave perform pure_run ◌>>=ʳ◌
      guarded_comes m (Gives vs s) (d, kept, holds, way) =
          comes_having symbols graphs rank m low low to (next x) l a d ws _ (omega arith) (keeps_all rank low k to a.delivered d free.0 kept)
          (comes_after symbols graphs rank m _ low to (next x) l (having d a) ws _
          (subst (λ (t : State). Reaches symbols graphs m (going (at_spot r (with_force (deeper 8 a.force) (having d a))) (Guarding cleanup a.force ∷ ws) t)) (passes_none vs s) way)
          (guarded_gives vs d s holds))
      guarded_comes m (Leaves e s) (d, p, h, kept, way) =
          comes_having symbols graphs rank m low low to (next x) l a d ws _ (omega arith) (keeps_all rank low k to a.delivered d free.0 kept)
          (comes_after symbols graphs rank m _ low to (next x) l (having d a) ws _ way (guarded_leaves (next x) e d p h s (λ us. perform (deliver w us))))
      guarded_comes m (Fails y p s) came = came
      guarded_comes m (NotYet s) came = came

    pub unwind_does : (t w : Bool) (pl : Place) (e c : Core) (n : ℕ) (l : Passes) (low : ℕ) (to : Option ℕ) (p q : Spot) →
        ((k : ℕ) (x r : Spot) → StandsAt g facts rank false false e 0 none low (Some k) x r → Does symbols graphs number g facts rank there call limit false false e 0 none low (Some k) x r) →
        ((r x : Spot) → StandsAt g facts rank false true c 0 none low None r x → Does symbols graphs number g facts rank there call limit false true c 0 none low None r x) →
        StandsAt g facts rank t w (Unwind pl e c) n l low to p q → Does symbols graphs number g facts rank there call limit t w (Unwind pl e c) n l low to p q
    unfolding eval visit perform guarded hold stack_at spend counting change ◌>>=ʳ◌ held_at stacked_at
    unwind_does t w pl e c n l low to p q first_part second_part (exits, k, r, cleanup, x, entry, here, free, stands, guards, body, resume, end) f a ws s at force =
        subst (λ (y : Spot). Comes symbols graphs rank (going (at_spot p a) ws s) low to y l a ws (whole (spent 1 (spent n s)))) (sym end)
        (subst (λ (u : State). Comes symbols graphs rank (going (at_spot p a) ws s) low to (next x) l a ws (whole u)) (sym (spent_both n 1 s))
        (comes_after symbols graphs rank (going (at_spot p a) ws s) _ low to (next x) l a ws (whole (spent (n + 1) s))
        (1, opens_guarded pl cleanup exits (n + 1) p a ws s at here)
        (guarded_comes w pl c l low to r x f k cleanup entry a ws at force free guards body resume (second_part (first_of cleanup) x) _ _
        (guarded_part (first_part k (next p) r stands)))))
      where
        whole : State → Outcome Vals
        whole u = and_then (cleaned (λ m t. eval call limit (around facts false true (keeping m f)) c (held_at (f.kept + m) t)) (eval call limit (around facts false false (deeper 8 f)) e (stacked_at (f.words + 8) u))) (λ us. perform (deliver w us))

        within : Activation
        within = with_force (deeper 8 a.force) a

        inner : Machine
        inner = going (at_spot (next p) within) (Guarding cleanup a.force ∷ ws) (stacked_at (a.force.words + 8) (spent (n + 1) s))

        guarded_part : Does symbols graphs number g facts rank there call limit false false e 0 none low (Some k) (next p) r →
            Comes symbols graphs rank (going (at_spot (next p) (with_force (deeper 8 a.force) a)) (Guarding cleanup a.force ∷ ws) (stacked_at (a.force.words + 8) (spent (n + 1) s))) low (Some k) r none (with_force (deeper 8 a.force) a) (Guarding cleanup a.force ∷ ws)
            (eval call limit (around facts false false (deeper 8 f)) e (stacked_at (f.words + 8) (spent (n + 1) s)))
        guarded_part does =
            subst (λ (h : Force). Comes symbols graphs rank inner low (Some k) r none within (Guarding cleanup a.force ∷ ws) (eval call limit (around facts false false (deeper 8 h)) e (stacked_at (h.words + 8) (spent (n + 1) s)))) force
            (subst (λ (u : State). Comes symbols graphs rank inner low (Some k) r none within (Guarding cleanup a.force ∷ ws) (eval call limit (around facts false false (deeper 8 a.force)) e u)) (spent_none (stacked_at (a.force.words + 8) (spent (n + 1) s)))
            (does (deeper 8 a.force) within (Guarding cleanup a.force ∷ ws) (stacked_at (a.force.words + 8) (spent (n + 1) s)) at refl))
