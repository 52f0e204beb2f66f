-- How runs come from one place to another: steps one after the other, and the state of the counts.
use Rattle.std.proofs.Common.{◌≡◌, ◌≢◌, ℕ, zero, suc, ◌+◌, ◌-◌, ◌*◌, ◌<◌, ◌≤◌, refl, sym, ap, subst, ◌∙◌, arith, Bool, true, false, if◌then◌else◌, List, [], ◌∷◌, length, Option, Some, None}
use Rattle.std.proofs.Common.{◌==◌, ne_eqb, eq-eqb}
use Rattle.std.proofs.lemmas.Option.{same_Some}
use Rattle.core_form.specs.State.{Symbol, State, all_big}
use Rattle.core_form.specs.Force.{Vals}
use Rattle.core_form.specs.Effect.{Ended, Gave, Left, Failed, deliver_more, boxes_more, counting, change, ◌>>=◌, pure, and_then as and_then_effect}
use Rattle.core_form.specs.Step.{deliver}
use Rattle.core_form.specs.Run.{Outcome, Gives, Leaves, Fails, NotYet, and_then, Run, outcome, perform}
use Rattle.layers.specs.Layer.{after}
use Rattle.icr_graph.specs.Plain.{FlowGraph}
use Rattle.graph_meaning.specs.Machine.{Delivered, without_all, delivered_to, Activation, advanced, holding, taking, Waiting, Machine, going, after as after_effect}
use Rattle.graph_meaning.specs.Effects.{delivered_by}
use Rattle.graph_meaning.specs.Extents.{spent}
use Rattle.graph_meaning.specs.Running.{step}
use Rattle.form_graphs.specs.Spots.{Spot, next, Passes, none, through}
use Rattle.form_graphs.specs.Landing.{at_spot, having, passed_on, Reaches, Keeps, Holds, Comes}

-- ---- steps

pub after_both : {S : Type 0} → (f : S → S) (j k : ℕ) (s : S) → after f k (after f j s) ≡ after f (k + j) s
after_both f j zero s = ap (λ (n : ℕ). after f n s) {x = j} (omega arith)
after_both f j (suc k) s = ap f (after_both f j k s) ∙ ap (λ (n : ℕ). after f n s) {x = suc (k + j)} (omega arith)

module _ (symbols : List Symbol) (graphs : List FlowGraph) where
  pub stays : (m : Machine) → Reaches symbols graphs m m
  stays m = (0, refl)

  pub reaches_then : {m m' m'' : Machine} → Reaches symbols graphs m m' → Reaches symbols graphs m' m'' → Reaches symbols graphs m m''
  reaches_then {m} {m'} {m''} (j, a) (k, b) =
      (k + j, sym (after_both (step symbols graphs) j k m) ∙ (ap (after (step symbols graphs) k) a ∙ b))

  pub one_step : (m : Machine) → Reaches symbols graphs m (step symbols graphs m)
  one_step m = (1, refl)

-- ---- counts

-- the counts after a node of the source has delivered
abbrev pub delivered_once : (word : Bool) → Vals → State → State
delivered_once w vs s =
    record s {
      counts = record s.counts {
        extra = s.counts.extra + (length vs - 1);
        boxes = s.counts.boxes + all_big vs;
        boxes_outside_words = s.counts.boxes_outside_words + (if w then 0 else all_big vs);
      };
    }

abbrev counted : (extra boxes outside : ℕ) → State → State
counted x b o s = record s { counts = record s.counts { extra = x; boxes = b; boxes_outside_words = o } }

once_more : (x n m : ℕ) → x + suc n * m ≡ x + m + n * m
once_more x n m = omega arith

pub passes_through : (w : Bool) (l : Passes) (vs : Vals) (s : State) → passed_on (through w l) vs s ≡ passed_on l vs (delivered_once w vs s)
passes_through true l vs s =
    ap (λ (x : ℕ). counted x (s.counts.boxes + suc l.levels * all_big vs) (s.counts.boxes_outside_words + l.boxing * all_big vs) s) (once_more s.counts.extra l.levels (length vs - 1))
    ∙ (ap (λ (b : ℕ). counted (s.counts.extra + (length vs - 1) + l.levels * (length vs - 1)) b (s.counts.boxes_outside_words + l.boxing * all_big vs) s) (once_more s.counts.boxes l.levels (all_big vs))
    ∙ ap (λ (o : ℕ). counted (s.counts.extra + (length vs - 1) + l.levels * (length vs - 1)) (s.counts.boxes + all_big vs + l.levels * all_big vs) (o + l.boxing * all_big vs) s) (omega arith))
passes_through false l vs s =
    ap (λ (x : ℕ). counted x (s.counts.boxes + suc l.levels * all_big vs) (s.counts.boxes_outside_words + suc l.boxing * all_big vs) s) (once_more s.counts.extra l.levels (length vs - 1))
    ∙ (ap (λ (b : ℕ). counted (s.counts.extra + (length vs - 1) + l.levels * (length vs - 1)) b (s.counts.boxes_outside_words + suc l.boxing * all_big vs) s) (once_more s.counts.boxes l.levels (all_big vs))
    ∙ ap (λ (o : ℕ). counted (s.counts.extra + (length vs - 1) + l.levels * (length vs - 1)) (s.counts.boxes + all_big vs + l.levels * all_big vs) o s) (once_more s.counts.boxes_outside_words l.boxing (all_big vs)))

-- without forms that pass values on nothing is counted
pub passes_none : (vs : Vals) (s : State) → passed_on none vs s ≡ s
passes_none vs s =
    ap (λ (x : ℕ). counted x (s.counts.boxes + 0 * all_big vs) (s.counts.boxes_outside_words + 0 * all_big vs) s) (no_more s.counts.extra (length vs - 1))
    ∙ (ap (λ (b : ℕ). counted s.counts.extra b (s.counts.boxes_outside_words + 0 * all_big vs) s) (no_more s.counts.boxes (all_big vs))
    ∙ ap (λ (o : ℕ). counted s.counts.extra s.counts.boxes o s) (no_more s.counts.boxes_outside_words (all_big vs)))
  where
    no_more : (x m : ℕ) → x + 0 * m ≡ x
    no_more x m = omega arith

-- ---- costs

abbrev cost_at : ℕ → State → State
cost_at n s = record s { counts = record s.counts { cost = n } }

pub spent_both : (n m : ℕ) (s : State) → spent m (spent n s) ≡ spent (n + m) s
spent_both n m s = ap (λ (x : ℕ). cost_at x s) {x = s.counts.cost + n + m} (omega arith)

pub spent_none : (s : State) → spent 0 s ≡ s
spent_none s = ap (λ (x : ℕ). cost_at x s) {x = s.counts.cost + 0} (omega arith)

-- ---- what continuations hold

module _ (rank : ℕ → ℕ) where
  -- a continuation of a higher rank is another
  pub is_other : (low j k : ℕ) → rank j < low → low ≤ rank k → Some k ≢ Some j
  is_other low j k less more same = no_more (subst (λ (x : ℕ). low ≤ rank x) (same_Some k j same) more)
    where
      no_more : low ≤ rank j → ⊥
      no_more m = omega (arith, less, m)

  -- what is kept but for a continuation of a higher rank is kept
  pub keeps_all : (low j : ℕ) (to : Option ℕ) (d d' : Delivered) → low ≤ rank j → Keeps rank low (Some j) d d' → Keeps rank low to d d'
  keeps_all low j to d d' more kept i less other = kept i less (is_other low i j less more)

  pub keeps_same : (low : ℕ) (to : Option ℕ) (d : Delivered) → Keeps rank low to d d
  keeps_same low to d j less other = refl

  pub keeps_then : (low : ℕ) (to : Option ℕ) (d d' d'' : Delivered) → Keeps rank low to d d' → Keeps rank low to d' d'' → Keeps rank low to d d''
  keeps_then low to d d' d'' a b j less other = b j less other ∙ a j less other

  pub keeps_fewer : (low more : ℕ) (to : Option ℕ) (d d' : Delivered) → low ≤ more → Keeps rank more to d d' → Keeps rank low to d d'
  keeps_fewer low more to d d' le kept j less other = kept j (omega (arith, less, le)) other

  -- all of these have a rank from low on
  abbrev pub From : (low : ℕ) → List ℕ → Type 0
  From low [] = Unit {0}
  From low (k ∷ ks) = (low ≤ rank k) × From low ks

  unequal : (j k : ℕ) → Some k ≢ Some j → (j == k) ≡ false
  unequal j k other = ne_eqb j k (λ e. other (ap Some (sym e)))

  -- taking continuations of higher ranks keeps the others
  pub taken_keeps : (low : ℕ) (to : Option ℕ) (ks : List ℕ) (d : Delivered) → From low ks → Keeps rank low to d (without_all ks d)
  taken_keeps low to [] d from j less other = refl
  taken_keeps low to (k ∷ ks) d (more, from) j less other =
      rw (unequal j k (is_other low j k less more)) (taken_keeps low to ks d from j less other)

  pub delivered_keeps : (low : ℕ) (to : Option ℕ) (vs : Vals) (d : Delivered) → Keeps rank low to d (delivered_to to vs d)
  delivered_keeps low None vs d j less other = refl
  delivered_keeps low (Some k) vs d j less other = rw (unequal j k other) refl

pub delivered_holds : (to : Option ℕ) (vs : Vals) (d : Delivered) → Holds to vs (delivered_to to vs d)
delivered_holds None vs d = tt
delivered_holds (Some k) vs d = rw (eq-eqb k k refl) refl

-- ---- what a form comes to

module _ (symbols : List Symbol) (graphs : List FlowGraph) (rank : ℕ → ℕ) where
  -- a run that first comes to another machine
  pub comes_after : (m m' : Machine) (low : ℕ) (to : Option ℕ) (q : Spot) (l : Passes) (a : Activation) (ws : List Waiting) (o : Outcome Vals) →
      Reaches symbols graphs m m' → Comes symbols graphs rank m' low to q l a ws o → Comes symbols graphs rank m low to q l a ws o
  comes_after m m' low to q l a ws (Gives vs s) way (d, kept, holds, rest) = (d, kept, holds, reaches_then symbols graphs way rest)
  comes_after m m' low to q l a ws (Leaves e s) way (d, p, f, kept, rest) = (d, p, f, kept, reaches_then symbols graphs way rest)
  comes_after m m' low to q l a ws (Fails x p s) way (here, waiting, rest) = (here, waiting, reaches_then symbols graphs way rest)
  comes_after m m' low to q l a ws (NotYet s) way (m'', rest, out) = (m'', reaches_then symbols graphs way rest, out)

  -- from an activation with other values delivered, of which those of lower ranks are the same
  pub comes_having : (m : Machine) (low more : ℕ) (to : Option ℕ) (q : Spot) (l : Passes) (a : Activation) (d : Delivered) (ws : List Waiting) (o : Outcome Vals) →
      low ≤ more → Keeps rank low to a.delivered d → Comes symbols graphs rank m more to q l (having d a) ws o → Comes symbols graphs rank m low to q l a ws o
  comes_having m low more to q l a d ws (Gives vs s) le first (d', kept, holds, rest) =
      (d', keeps_then rank low to a.delivered d d' first (keeps_fewer rank low more to d d' le kept), holds, rest)
  comes_having m low more to q l a d ws (Leaves e s) le first (d', p, f, kept, rest) =
      (d', p, f, keeps_then rank low to a.delivered d d' first (keeps_fewer rank low more to d d' le kept), rest)
  comes_having m low more to q l a d ws (Fails x p s) le first rest = rest
  comes_having m low more to q l a d ws (NotYet s) le first rest = rest

  -- A part whose values go to a continuation of its own, and then what follows with them.
  pub comes_then : (m : Machine) (low j : ℕ) (r q : Spot) (to : Option ℕ) (l : Passes) (a : Activation) (ws : List Waiting) (o : Outcome Vals) (next : Vals → Run Vals) →
      low ≤ rank j → Comes symbols graphs rank m low (Some j) r none a ws o →
      ((vs : Vals) (s : State) (d : Delivered) → Keeps rank low (Some j) a.delivered d → d j ≡ Some vs → Comes symbols graphs rank (going (having d (at_spot r a)) ws s) low to q l (having d a) ws (next vs s)) →
      Comes symbols graphs rank m low to q l a ws (and_then o next)
  comes_then m low j r q to l a ws (Gives vs s) next more (d, kept, holds, way) follows =
      comes_having m low low to q l a d ws (next vs s) (omega arith) (keeps_all rank low j to a.delivered d more kept)
      (comes_after m (going (having d (at_spot r a)) ws s) low to q l (having d a) ws (next vs s) (subst (λ (t : State). Reaches symbols graphs m (going (having d (at_spot r a)) ws t)) (passes_none vs s) way) (follows vs s d kept holds))
  comes_then m low j r q to l a ws (Leaves e s) next more (d, p, f, kept, way) follows = (d, p, f, keeps_all rank low j to a.delivered d more kept, way)
  comes_then m low j r q to l a ws (Fails x p s) next more came follows = came
  comes_then m low j r q to l a ws (NotYet s) next more came follows = came

  -- A node has taken its operands and gives what an effect gives, which then passes its form and others.
  pub gives_comes : (low : ℕ) (to : Option ℕ) (p : Spot) (w : Bool) (n : ℕ) (l : Passes) (ks : List ℕ) (a : Activation) (ws : List Waiting) (r : Ended Vals) → From rank low ks →
      Comes symbols graphs rank (after_effect (taking ks (at_spot p a)) ws (λ vs. going (advanced (holding to vs (taking ks (at_spot p a)))) ws) (and_then_effect r (delivered_by (record { cost = n; levels = (through w l).levels; boxing = (through w l).boxing }))))
      low to (next p) l a ws (and_then (outcome r) (λ vs. perform (deliver w vs)))
  unfolding delivered_by deliver_more boxes_more counting change ◌>>=◌ pure perform deliver
  gives_comes low to p w n l ks a ws (Gave vs s) from = (
    delivered_to to vs (without_all ks a.delivered),
    keeps_then rank low to a.delivered (without_all ks a.delivered) (delivered_to to vs (without_all ks a.delivered)) (taken_keeps rank low to ks a.delivered from) (delivered_keeps rank low to vs (without_all ks a.delivered)),
    delivered_holds to vs (without_all ks a.delivered),
    subst (λ (t : State). Reaches symbols graphs (going (having (delivered_to to vs (without_all ks a.delivered)) (at_spot (next p) a)) ws (passed_on (through w l) vs s)) (going (having (delivered_to to vs (without_all ks a.delivered)) (at_spot (next p) a)) ws t)) (passes_through w l vs s) (stays symbols graphs _),
  )
  gives_comes low to p w n l ks a ws (Left e s) from =
      (without_all ks a.delivered, p, a.force, taken_keeps rank low to ks a.delivered from, stays symbols graphs _)
  gives_comes low to p w n l ks a ws (Failed x pl s) from = (taking ks (at_spot p a), ws, stays symbols graphs _)
