-- Forms without parts, and with one part, do in their graphs what they do.
use Rattle.std.proofs.Common.{◌≡◌, ℕ, ◌+◌, ◌≤◌, refl, sym, ap, subst, ◌∙◌, Bool, false, List, [], ◌∷◌, Option, Some}
use Rattle.std.specs.Prelude.{slice_get}
use Rattle.lisp_base.specs.declared.values.SymId.{SymId}
use Rattle.lisp_base.specs.declared.values.Val.{Val}
use Rattle.lisp_base.specs.declared.values.Place.{Place}
use Rattle.core_form.specs.Tree.{Core, Quote, Global, SetGlobal}
use Rattle.core_form.specs.Facts.{Facts}
use Rattle.core_form.specs.State.{Symbol, State, first_of_values}
use Rattle.core_form.specs.Effect.{Effect, Ended, and_then as and_then_effect, ◌>>=◌, pure, change, counting, spend}
use Rattle.core_form.specs.Force.{Vals, Force, one}
use Rattle.core_form.specs.Primitives.{global_value, set_global}
use Rattle.core_form.specs.Step.{deliver}
use Rattle.core_form.specs.Run.{Outcome, Gives, Leaves, Fails, NotYet, and_then, outcome, perform, visit, first, ◌>>=◌ as ◌>>=ʳ◌, pure as pure_run}
use Rattle.core_form.specs.Eval.{Call, eval}
use Rattle.icr_graph.specs.declared.nodes.Node.{Node}
use Rattle.icr_graph.specs.declared.nodes.NodeKind.TheVariants as kind
use Rattle.icr_graph.specs.declared.nodes.Leaf.{Leaf}
use Rattle.icr_graph.specs.declared.nodes.Leaf.TheVariants as leaf
use Rattle.icr_graph.specs.Plain.{FlowGraph}
use Rattle.graph_meaning.specs.Machine.{Delivered, Activation, advanced, holding, taking, Waiting, Machine, going, after as after_effect}
use Rattle.graph_meaning.specs.Reading.{node_at, first_function}
use Rattle.graph_meaning.specs.Effects.{delivered_by, test_operands, test_all, box_before, leaf_values, operate}
use Rattle.graph_meaning.specs.Extents.{spent}
use Rattle.graph_meaning.specs.Running.{step, runs_node}
use Rattle.form_graphs.specs.Spots.{Spot, next, Passes, none, through, Here}
use Rattle.form_graphs.specs.Standing.{StandsAt}
use Rattle.form_graphs.specs.Calling.{around}
use Rattle.form_graphs.specs.Landing.{at_spot, having, Keeps, Comes}
use Rattle.form_graphs.proofs.Coming.{From, one_step, comes_after, comes_then, gives_comes, spent_both, spent_none}

module _ (symbols : List Symbol) (graphs : List FlowGraph) (number : ℕ) (g : FlowGraph) (facts : Facts) (rank : ℕ → ℕ) (there : slice_get graphs number ≡ Some g) where
  -- a run at a node of the graph does what the node does
  pub runs_there : (p : Spot) (nd : Node) (a : Activation) (ws : List Waiting) (s : State) → a.graph ≡ number → node_at g p.block p.index ≡ Some nd →
      step symbols graphs (going (at_spot p a) ws s) ≡ runs_node g (first_function graphs number) nd (at_spot p a) ws s
  runs_there p nd a ws s at here = rw (at, there, here) refl

  -- a leaf gives what its effect gives
  pub leaf_comes : (low : ℕ) (to : Option ℕ) (p : Spot) (w : Bool) (n : ℕ) (pl : Place) (l : Passes) (x : Leaf) (a : Activation) (ws : List Waiting) (s : State) → a.graph ≡ number →
      Here g p (kind.Ref x) to pl n (through w l) →
      Comes symbols graphs rank (going (at_spot p a) ws s) low to (next p) l a ws (and_then (outcome (leaf_values g (first_function graphs number) (at_spot p a) pl x (spent n s))) (λ vs. perform (deliver w vs)))
  unfolding box_before test_operands ◌>>=◌ pure
  leaf_comes low to p w n pl l x a ws s at (b, here) =
      comes_after symbols graphs rank (going (at_spot p a) ws s) (step symbols graphs (going (at_spot p a) ws s)) low to (next p) l a ws
      (and_then (outcome (leaf_values g (first_function graphs number) (at_spot p a) pl x (spent n s))) (λ vs. perform (deliver w vs)))
      (one_step symbols graphs (going (at_spot p a) ws s))
      (rw (runs_there p _ a ws s at here) (gives_comes symbols graphs rank low to p w n l [] a ws (leaf_values g (first_function graphs number) (at_spot p a) pl x (spent n s)) tt))

  -- a form that is visited and has an effect, of which the leaf of a node has the same
  pub leaf_does : (low : ℕ) (to : Option ℕ) (p q : Spot) (t w : Bool) (n : ℕ) (pl : Place) (l : Passes) (x : Leaf) (f : Force) (a : Activation) (ws : List Waiting) (s : State) (eff : Effect Vals) → a.graph ≡ number →
      Here g p (kind.Ref x) to pl (n + 1) (through w l) → q ≡ next p → ((u : State) → leaf_values g (first_function graphs number) (at_spot p a) pl x u ≡ eff u) →
      Comes symbols graphs rank (going (at_spot p a) ws s) low to q l a ws (visit (around facts t w f) (perform eff) (spent n s))
  unfolding visit perform spend counting change ◌>>=ʳ◌
  leaf_does low to p q t w n pl l x f a ws s eff at here end same =
      subst (λ (r : Spot). Comes symbols graphs rank (going (at_spot p a) ws s) low to r l a ws (and_then (outcome (eff (spent 1 (spent n s)))) (λ vs. perform (deliver w vs)))) (sym end)
      (subst (λ (r : Ended Vals). Comes symbols graphs rank (going (at_spot p a) ws s) low to (next p) l a ws (and_then (outcome r) (λ vs. perform (deliver w vs))))
      (same (spent (n + 1) s) ∙ ap eff (sym (spent_both n 1 s)))
      (leaf_comes low to p w (n + 1) pl l x a ws s at here))

  module _ (call : Call) (limit : ℕ) where
    -- what a form that stands in the graph must come to
    abbrev pub Does : (tail word : Bool) → Core → (cost : ℕ) → Passes → (low : ℕ) → Option ℕ → Spot → Spot → Type 0
    Does t w e n l low to p q =
        (f : Force) (a : Activation) (ws : List Waiting) (s : State) → a.graph ≡ number → a.force ≡ f →
        Comes symbols graphs rank (going (at_spot p a) ws s) low to q l a ws (eval call limit (around facts t w f) e (spent n s))

    pub quote_does : (t w : Bool) (pl : Place) (v : Val) (n : ℕ) (l : Passes) (low : ℕ) (to : Option ℕ) (p q : Spot) → StandsAt g facts rank t w (Quote pl v) n l low to p q → Does t w (Quote pl v) n l low to p q
    unfolding eval leaf_values
    quote_does t w pl v n l low to p q (here, end) f a ws s at force =
        leaf_does low to p q t w n pl l (leaf.Constant v) f a ws s (one v) at here end (λ u. refl)

    pub global_does : (t w : Bool) (pl : Place) (x : SymId) (n : ℕ) (l : Passes) (low : ℕ) (to : Option ℕ) (p q : Spot) → StandsAt g facts rank t w (Global pl x) n l low to p q → Does t w (Global pl x) n l low to p q
    unfolding eval leaf_values
    global_does t w pl x n l low to p q (here, end) f a ws s at force =
        leaf_does low to p q t w n pl l (leaf.Global x) f a ws s (global_value f pl x) at here end (λ u. ap (λ (h : Force). global_value h pl x u) force)

    -- A form of one part, whose first value has an effect: the part comes first.
    pub one_part : (m : Machine) (low j : ℕ) (r q : Spot) (to : Option ℕ) (w : Bool) (l : Passes) (a : Activation) (ws : List Waiting) (o : Outcome Vals) (eff : Val → Effect Vals) →
        low ≤ rank j → Comes symbols graphs rank m low (Some j) r none a ws o →
        ((vs : Vals) (s : State) (d : Delivered) → Keeps rank low (Some j) a.delivered d → d j ≡ Some vs →
        Comes symbols graphs rank (going (having d (at_spot r a)) ws s) low to q l (having d a) ws (and_then (outcome (eff (first_of_values vs) s)) (λ us. perform (deliver w us)))) →
        Comes symbols graphs rank m low to q l a ws (and_then (and_then (and_then o (λ vs. pure_run (first_of_values vs))) (λ v. perform (eff v))) (λ us. perform (deliver w us)))
    unfolding perform pure_run
    one_part m low j r q to w l a ws o eff more came follows =
        subst (Comes symbols graphs rank m low to q l a ws) (regroup o)
        (comes_then symbols graphs rank m low j r q to l a ws o (λ vs s. and_then (outcome (eff (first_of_values vs) s)) (λ us. perform (deliver w us))) more came follows)
      where
        regroup : (o : Outcome Vals) → and_then o (λ vs s. and_then (outcome (eff (first_of_values vs) s)) (λ us. perform (deliver w us))) ≡ and_then (and_then (and_then o (λ vs. pure_run (first_of_values vs))) (λ v. perform (eff v))) (λ us. perform (deliver w us))
        regroup (Gives vs s) = refl
        regroup (Leaves e s) = refl
        regroup (Fails x pl s) = refl
        regroup (NotYet s) = refl

    -- a node that gives what an effect gives when it has taken its operands
    pub node_gives : (low : ℕ) (to : Option ℕ) (p : Spot) (w : Bool) (n : ℕ) (l : Passes) (ks : List ℕ) (a : Activation) (ws : List Waiting) (s : State) (nd : Node) (r : Ended Vals) → a.graph ≡ number → From rank low ks →
        node_at g p.block p.index ≡ Some nd →
        runs_node g (first_function graphs number) nd (at_spot p a) ws s ≡ after_effect (taking ks (at_spot p a)) ws (λ vs. going (advanced (holding to vs (taking ks (at_spot p a)))) ws) (and_then_effect r (delivered_by (record { cost = n; levels = (through w l).levels; boxing = (through w l).boxing }))) →
        Comes symbols graphs rank (going (at_spot p a) ws s) low to (next p) l a ws (and_then (outcome r) (λ vs. perform (deliver w vs)))
    node_gives low to p w n l ks a ws s nd r at from here does =
        comes_after symbols graphs rank (going (at_spot p a) ws s) (step symbols graphs (going (at_spot p a) ws s)) low to (next p) l a ws
        (and_then (outcome r) (λ vs. perform (deliver w vs)))
        (one_step symbols graphs (going (at_spot p a) ws s))
        (rw (runs_there p nd a ws s at here, does) (gives_comes symbols graphs rank low to p w n l ks a ws r from))

    pub set_global_does : (t w : Bool) (pl : Place) (x : SymId) (e : Core) (n : ℕ) (l : Passes) (low : ℕ) (to : Option ℕ) (p q : Spot) →
        ((j : ℕ) (r : Spot) → StandsAt g facts rank false false e (n + 1) none low (Some j) p r → Does false false e (n + 1) none low (Some j) p r) →
        StandsAt g facts rank t w (SetGlobal pl x e) n l low to p q → Does t w (SetGlobal pl x e) n l low to p q
    unfolding eval visit first perform spend counting change ◌>>=ʳ◌ box_before test_operands test_all operate pure ◌>>=◌
    set_global_does t w pl x e n l low to p q part (j, r, free, stands, (b, here), end) f a ws s at force =
        subst (λ (y : Spot). Comes symbols graphs rank (going (at_spot p a) ws s) low to y l a ws (and_then (and_then (and_then (eval call limit (around facts false false f) e (spent 1 (spent n s))) (λ vs. pure_run (first_of_values vs))) (λ v. perform (set_global x v))) (λ us. perform (deliver w us)))) (sym end)
        (one_part (going (at_spot p a) ws s) low j r (next r) to w l a ws (eval call limit (around facts false false f) e (spent 1 (spent n s))) (set_global x) free.0
        (subst (λ (u : State). Comes symbols graphs rank (going (at_spot p a) ws s) low (Some j) r none a ws (eval call limit (around facts false false f) e u)) (sym (spent_both n 1 s)) (part j r stands f a ws s at force))
        (λ vs s1 d kept holds. node_gives low to r w 0 l (j ∷ []) (having d a) ws s1 _ (set_global x (first_of_values vs) s1) at (free.0, tt) here (rw (free.1, holds, spent_none s1) refl)))
