-- Calls do in their graphs what they do.
use Rattle.std.proofs.Common.{◌≡◌, ◌≢◌, ℕ, suc, ◌≤◌, refl, sym, subst, arith, Bool, false, List, [], ◌∷◌, Option, Some, None}
use Rattle.std.proofs.lemmas.Option.{none-some}
use Rattle.std.specs.Prelude.{slice_get}
use Rattle.lisp_base.specs.declared.values.Val.{Val}
use Rattle.lisp_base.specs.declared.values.Place.{Place}
use Rattle.lisp_base.specs.Sort.{nil}
use Rattle.lisp_base.specs.Spec.{Spec}
use Rattle.core_form.specs.Tree.{Core, Cores, no_core, core}
use Rattle.core_form.specs.Facts.{Facts}
use Rattle.core_form.specs.State.{Symbol, Object, Pair, Vector, Str, Fun, Cell, State, first_of_values}
use Rattle.core_form.specs.Effect.{Ended, Gave, Left, Failed, and_then as and_then_effect, ◌>>=◌, pure, read, deliver_more, boxes_more, counting, change}
use Rattle.core_form.specs.Force.{Vals, Force, object_at, one}
use Rattle.core_form.specs.Step.{deliver}
use Rattle.core_form.specs.Run.{Outcome, Gives, Leaves, Fails, NotYet, Run, and_then, outcome, perform, first, ◌>>=◌ as ◌>>=ʳ◌, pure as pure_run}
use Rattle.core_form.specs.Eval.{Call, call_value, call_object, eval, args}
use Rattle.icr_graph.specs.declared.nodes.Node.{Node}
use Rattle.icr_graph.specs.declared.nodes.NodeKind.{NodeKind}
use Rattle.icr_graph.specs.declared.nodes.NodeKind.TheVariants as kind
use Rattle.icr_graph.specs.declared.nodes.Leaf.{Leaf}
use Rattle.icr_graph.specs.Plain.{FlowGraph}
use Rattle.graph_meaning.specs.Machine.{Delivered, delivered_to, without_all, Activation, advanced, holding, taking, Waiting, Machine, going, after as after_effect}
use Rattle.graph_meaning.specs.Reading.{node_at, first_function}
use Rattle.graph_meaning.specs.Effects.{test_operands, test_all, box_before, leaf_values, delivered_by}
use Rattle.graph_meaning.specs.Running.{step, gives, calling, calls, calls_object, node_of, first_values}
use Rattle.graph_meaning.specs.Extents.{spent}
use Rattle.form_graphs.specs.Spots.{Spot, next, Passes, none, through, Here}
use Rattle.form_graphs.specs.Standing.{StandsAt, OperandsStandAt, other_types, left_after}
use Rattle.form_graphs.specs.Landing.{at_spot, having, Reaches, Keeps, Comes}
use Rattle.form_graphs.specs.Calling.{around, CallComes, CallsDo}
use Rattle.form_graphs.proofs.Coming.{From, one_step, taken_keeps, stays, comes_after, comes_having, gives_comes, passes_none, keeps_fewer, keeps_all, keeps_same, keeps_then, delivered_keeps, delivered_holds, spent_none}
use Rattle.form_graphs.proofs.Leaves.{Does, runs_there}

-- the node that stands at a place, takes these, and gives its values to a continuation
abbrev pub node_for : NodeKind → Option ℕ → (block : ℕ) → Place → ℕ → Passes → Node
node_for k to b pl n l = record { kind = k; cont = to; block = b; place = pl; charges = record { cost = n; levels = l.levels; boxing = l.boxing } }

-- runs one after another, grouped to the right
pub regroup : {A B : Type 0} → (o : Outcome A) (f : A → Run B) (g : B → Run Vals) → and_then o (λ a s. and_then (f a s) g) ≡ and_then (and_then o f) g
regroup (Gives a s) f g = refl
regroup (Leaves e s) f g = refl
regroup (Fails x p s) f g = refl
regroup (NotYet s) f g = refl

module _ (symbols : List Symbol) (graphs : List FlowGraph) (rank : ℕ → ℕ) where
  -- a node has taken its operands, and what follows comes after an effect
  pub effect_then : {A : Type 0} → (low : ℕ) (to : Option ℕ) (p q : Spot) (l : Passes) (ks : List ℕ) (a : Activation) (ws : List Waiting) (next : A → State → Machine) (run : A → Run Vals) (r : Ended A) → From rank low ks →
      ((v : A) (s : State) → Comes symbols graphs rank (next v s) low to q l a ws (run v s)) →
      Comes symbols graphs rank (after_effect (taking ks (at_spot p a)) ws next r) low to q l a ws (and_then (outcome r) run)
  effect_then low to p q l ks a ws next run (Gave v s) from follows = follows v s
  effect_then low to p q l ks a ws next run (Left e s) from follows =
      (without_all ks a.delivered, p, a.force, taken_keeps rank low to ks a.delivered from, stays symbols graphs _)
  effect_then low to p q l ks a ws next run (Failed x pl s) from follows = (taking ks (at_spot p a), ws, stays symbols graphs _)

  -- what a call comes to, its node comes to
  pub call_comes : (low : ℕ) (to : Option ℕ) (p : Spot) (w : Bool) (n : ℕ) (l : Passes) (ks : List ℕ) (a : Activation) (ws : List Waiting) (m : Machine) (k : NodeKind) (b : ℕ) (pl : Place) (o : Outcome Vals) → From rank low ks →
      CallComes symbols graphs m (node_for k to b pl n (through w l)) (taking ks (at_spot p a)) ws o →
      Comes symbols graphs rank m low to (next p) l a ws (and_then o (λ us. perform (deliver w us)))
  unfolding pure ◌>>=◌
  call_comes low to p w n l ks a ws m k b pl (Gives us s) from way =
      comes_after symbols graphs rank m (gives (node_for k to b pl n (through w l)) (taking ks (at_spot p a)) ws (pure us) s) low to (next p) l a ws (perform (deliver w us) s) way
      (gives_comes symbols graphs rank low to p w n l ks a ws (Gave us s) from)
  call_comes low to p w n l ks a ws m k b pl (Leaves e s) from way =
      (without_all ks a.delivered, p, a.force, taken_keeps rank low to ks a.delivered from, way)
  call_comes low to p w n l ks a ws m k b pl (Fails x pl' s) from came = came
  call_comes low to p w n l ks a ws m k b pl (NotYet s) from came = came

  module _ (call : Call) (calls_do : CallsDo symbols graphs call) (facts : Facts) where
    -- a call of a value
    pub value_comes : (low : ℕ) (to : Option ℕ) (p : Spot) (t w : Bool) (n : ℕ) (l : Passes) (ks : List ℕ) (f : Force) (a : Activation) (ws : List Waiting) (k : NodeKind) (b : ℕ) (pl : Place) (vs : Vals) (v : Val) (s : State) → From rank low ks →
        a.force ≡ f → node_of (slice_get graphs a.graph) (taking ks (at_spot p a)) ≡ Some (node_for k to b pl n (through w l)) →
        Comes symbols graphs rank (calls (node_for k to b pl n (through w l)) t vs v (taking ks (at_spot p a)) ws s) low to (next p) l a ws (and_then (call_value call (around facts t w f) vs v s) (λ us. perform (deliver w us)))
    unfolding call_value call_object perform read ◌>>=ʳ◌ ◌>>=◌
    value_comes low to p t w n l ks f a ws k b pl vs v s from force here = by_object (object_at v s)
      where
        nothing_called : Comes symbols graphs rank (gives (node_for k to b pl n (through w l)) (taking ks (at_spot p a)) ws (one nil) s) low to (next p) l a ws (and_then (perform (one nil) s) (λ us. perform (deliver w us)))
        nothing_called = gives_comes symbols graphs rank low to p w n l ks a ws (one nil s) from

        by_object : (o : Option Object) → Comes symbols graphs rank (calls_object (node_for k to b pl n (through w l)) t vs o (taking ks (at_spot p a)) ws s) low to (next p) l a ws (and_then (call_object call (around facts t w f) vs o s) (λ us. perform (deliver w us)))
        by_object None = nothing_called
        by_object (Some (Pair x y)) = nothing_called
        by_object (Some (Vector xs)) = nothing_called
        by_object (Some (Str cs)) = nothing_called
        by_object (Some (Cell x)) = nothing_called
        by_object (Some (Fun j closed)) =
            call_comes low to p w n l ks a ws (calling t j closed vs None (taking ks (at_spot p a)) ws s) k b pl (call (around facts t w f) j closed vs s) from
            (calls_do facts t w f j closed vs (taking ks (at_spot p a)) (node_for k to b pl n (through w l)) ws s force here)

module _ (symbols : List Symbol) (graphs : List FlowGraph) (number : ℕ) (g : FlowGraph) (rank : ℕ → ℕ) (there : slice_get graphs number ≡ Some g) where
  -- a node of the graph, seen from an activation that has taken its operands
  pub node_there : (p : Spot) (nd : Node) (ks : List ℕ) (a : Activation) → a.graph ≡ number → node_at g p.block p.index ≡ Some nd →
      node_of (slice_get graphs a.graph) (taking ks (at_spot p a)) ≡ Some nd
  node_there p nd ks a at here = rw (at, there, here) refl

  -- nothing is asserted on the operands
  pub untested : (f : Force) (pl : Place) (es : Cores) (low : ℕ) (ks : List ℕ) (facts : Facts) (p q : Spot) (n : ℕ) (d : Delivered) (s : State) → OperandsStandAt g facts rank false pl es [] None n low ks p q →
      test_operands g f d ks s ≡ Gave tt s
  unfolding test_operands test_all pure ◌>>=◌
  untested f pl no_core low ks facts p q n d s (none_there, same) = rw none_there refl
  untested f pl (core e es) low [] facts p q n d s stands = absurd stands
  untested f pl (core e es) low (k ∷ ks) facts p q n d s (r, less, free, part, stands) =
      rw free (untested f pl es (suc (rank k)) ks facts r q 0 d s stands)

  -- and their continuations have ranks from here on
  pub from_operands : (pl : Place) (es : Cores) (ts : List Spec) (rest : Option Spec) (word : Bool) (low more : ℕ) (ks : List ℕ) (facts : Facts) (p q : Spot) (n : ℕ) → low ≤ more → OperandsStandAt g facts rank word pl es ts rest n more ks p q → From rank low ks
  from_operands pl no_core ts rest word low more ks facts p q n le (none_there, same) = subst (From rank low) (sym none_there) tt
  from_operands pl (core e es) ts rest word low more [] facts p q n le stands = absurd stands
  from_operands pl (core e es) ts rest word low more (k ∷ ks) facts p q n le (r, less, asserted, part, stands) =
      (omega (arith, le, less), from_operands pl es (other_types ts) rest word low (suc (rank k)) ks facts r q 0 (omega (arith, le, less)) stands)

  -- a part whose values go to a continuation of a higher rank, and then what follows with them
  pub comes_then_from : (m : Machine) (low more j : ℕ) (r q : Spot) (to : Option ℕ) (l : Passes) (a : Activation) (ws : List Waiting) (o : Outcome Vals) (next : Vals → Run Vals) →
      low ≤ more → more ≤ rank j → Comes symbols graphs rank m more (Some j) r none a ws o →
      ((vs : Vals) (s : State) (d : Delivered) → Keeps rank more (Some j) a.delivered d → d j ≡ Some vs → Comes symbols graphs rank (going (having d (at_spot r a)) ws s) low to q l (having d a) ws (next vs s)) →
      Comes symbols graphs rank m low to q l a ws (and_then o next)
  comes_then_from m low more j r q to l a ws (Gives vs s) next le less (d, kept, holds, way) follows =
      comes_having symbols graphs rank m low low to q l a d ws (next vs s) (omega arith) (keeps_fewer rank low more to a.delivered d le (keeps_all rank more j to a.delivered d less kept))
      (comes_after symbols graphs rank m (going (having d (at_spot r a)) ws s) low to q l (having d a) ws (next vs s) (subst (λ (t : State). Reaches symbols graphs m (going (having d (at_spot r a)) ws t)) (passes_none vs s) way) (follows vs s d kept holds))
  comes_then_from m low more j r q to l a ws (Leaves e s) next le less (d, p, f, kept, way) follows = (d, p, f, keeps_fewer rank low more to a.delivered d le (keeps_all rank more j to a.delivered d less kept), way)
  comes_then_from m low more j r q to l a ws (Fails x p s) next le less came follows = came
  comes_then_from m low more j r q to l a ws (NotYet s) next le less came follows = came

  -- parts of a form take the cost that is still to be charged
  pub none_left : (es : Cores) → left_after es 0 ≡ 0
  none_left no_core = refl
  none_left (core e es) = refl

  module _ (facts : Facts) (call : Call) (limit : ℕ) where
    -- a leaf whose values go to a continuation and pass no form, and then what follows with them
    pub leaf_then : (low more k : ℕ) (p q : Spot) (n : ℕ) (pl : Place) (x : Leaf) (to : Option ℕ) (l : Passes) (a : Activation) (ws : List Waiting) (s : State) (r : Ended Vals) (follow : Vals → Run Vals) → a.graph ≡ number → low ≤ more → more ≤ rank k →
        Here g p (kind.Ref x) (Some k) pl n none → leaf_values g (first_function graphs number) (at_spot p a) pl x (spent n s) ≡ r →
        ((vs : Vals) (u : State) (d : Delivered) → Keeps rank more None a.delivered d → d k ≡ Some vs → Comes symbols graphs rank (going (having d (at_spot (next p) a)) ws u) low to q l (having d a) ws (follow vs u)) →
        Comes symbols graphs rank (going (at_spot p a) ws s) low to q l a ws (and_then (outcome r) follow)
    unfolding box_before test_operands pure ◌>>=◌ delivered_by deliver_more boxes_more counting change
    leaf_then low more k p q n pl x to l a ws s r follow at le less (b, here) same follows =
        comes_after symbols graphs rank (going (at_spot p a) ws s) (step symbols graphs (going (at_spot p a) ws s)) low to q l a ws (and_then (outcome r) follow)
        (one_step symbols graphs (going (at_spot p a) ws s))
        (rw (runs_there symbols graphs number g facts rank there p _ a ws s at here, same) (by_result r))
      where
        by_result : (r : Ended Vals) → Comes symbols graphs rank (after_effect (at_spot p a) ws (λ vs. going (advanced (holding (Some k) vs (at_spot p a))) ws) (and_then_effect r (delivered_by (record { cost = n; levels = 0; boxing = 0 })))) low to q l a ws (and_then (outcome r) follow)
        by_result (Gave vs u) =
            subst (λ (t : State). Comes symbols graphs rank (going (having (delivered_to (Some k) vs a.delivered) (at_spot (next p) a)) ws t) low to q l a ws (follow vs u)) (sym (passes_none vs u))
            (comes_having symbols graphs rank (going (having (delivered_to (Some k) vs a.delivered) (at_spot (next p) a)) ws u) low low to q l a (delivered_to (Some k) vs a.delivered) ws (follow vs u) (omega arith)
            (keeps_fewer rank low more to a.delivered (delivered_to (Some k) vs a.delivered) le (keeps_all rank more k to a.delivered (delivered_to (Some k) vs a.delivered) less (delivered_keeps rank more (Some k) vs a.delivered)))
            (follows vs u (delivered_to (Some k) vs a.delivered) (keeps_all rank more k None a.delivered (delivered_to (Some k) vs a.delivered) less (delivered_keeps rank more (Some k) vs a.delivered)) (delivered_holds (Some k) vs a.delivered)))
        by_result (Left e u) = (a.delivered, p, a.force, keeps_same rank low to a.delivered, stays symbols graphs _)
        by_result (Failed y z u) = (at_spot p a, ws, stays symbols graphs _)

    abbrev Form_does : (tail word : Bool) → Core → (cost : ℕ) → Passes → (low : ℕ) → Option ℕ → Spot → Spot → Type 0
    Form_does t w e n l low to p q = Does symbols graphs number g facts rank there call limit t w e n l low to p q

    -- a form does what it does wherever it stands in the graph
    abbrev pub Everywhere : (tail word : Bool) → Core → Type 0
    Everywhere t w e = (n : ℕ) (l : Passes) (low : ℕ) (to : Option ℕ) (p q : Spot) → StandsAt g facts rank t w e n l low to p q → Form_does t w e n l low to p q

    -- each of these does
    abbrev pub AllDo : (word : Bool) → Cores → Type 0
    AllDo w no_core = Unit {0}
    AllDo w (core e es) = Everywhere false w e × AllDo w es

    -- Operands, and then what follows when each continuation holds values of which the first is the argument.
    pub operands_then : (w : Bool) (pl : Place) (es : Cores) (ts : List Spec) (rest : Option Spec) (n low more : ℕ) (ks : List ℕ) (f : Force) (a : Activation) (ws : List Waiting) (s : State) (p r q : Spot) (to : Option ℕ) (l : Passes) (follow : Vals → Run Vals) →
        low ≤ more → AllDo w es → OperandsStandAt g facts rank w pl es ts rest n more ks p r → a.graph ≡ number → a.force ≡ f →
        ((vs : Vals) (u : State) (d : Delivered) → Keeps rank more None a.delivered d → first_values d ks ≡ vs → Comes symbols graphs rank (going (having d (at_spot r a)) ws u) low to q l (having d a) ws (follow vs (spent (left_after es n) u))) →
        Comes symbols graphs rank (going (at_spot p a) ws s) low to q l a ws (and_then (args call limit (around facts false w f) es (spent n s)) follow)
    unfolding args pure_run first ◌>>=ʳ◌
    operands_then w pl no_core ts rest n low more ks f a ws s p r q to l follow le parts (none_there, same) at force follows =
        subst (λ (x : Spot). Comes symbols graphs rank (going (at_spot x a) ws s) low to q l a ws (follow [] (spent n s))) (sym same)
        (follows [] s a.delivered (keeps_same rank more None a.delivered) (rw none_there refl))
    operands_then w pl (core e es) ts rest n low more [] f a ws s p r q to l follow le parts stands at force follows = absurd stands
    operands_then w pl (core e es) ts rest n low more (k ∷ ks) f a ws s p r q to l follow le (part, parts) (x, less, asserted, stands, others_stand) at force follows =
        subst (Comes symbols graphs rank (going (at_spot p a) ws s) low to q l a ws) (grouped (eval call limit (around facts false w f) e (spent n s)))
        (comes_then_from (going (at_spot p a) ws s) low more k x q to l a ws (eval call limit (around facts false w f) e (spent n s))
        (λ us t. and_then (args call limit (around facts false w f) es t) (λ vs. follow (first_of_values us ∷ vs))) le less (part n none more (Some k) p x stands f a ws s at force)
        (λ us t d kept holds.
        subst (λ (u : State). Comes symbols graphs rank (going (having d (at_spot x a)) ws t) low to q l (having d a) ws (and_then (args call limit (around facts false w f) es u) (λ vs. follow (first_of_values us ∷ vs)))) (spent_none t)
        (operands_then w pl es (other_types ts) rest 0 low (suc (rank k)) ks f (having d a) ws t x r q to l (λ vs. follow (first_of_values us ∷ vs)) (omega (arith, le, less)) parts others_stand at force
        (λ vs u d' kept' hold'.
        subst (λ (c : ℕ). Comes symbols graphs rank (going (having d' (at_spot r a)) ws u) low to q l (having d' a) ws (follow (first_of_values us ∷ vs) (spent c u))) (sym (none_left es))
        (follows (first_of_values us ∷ vs) u d' (keeps_then rank more None a.delivered d d' (keeps_all rank more k None a.delivered d less kept) (keeps_fewer rank more (suc (rank k)) None d d' (omega (arith, less)) kept'))
        (rw (kept' k (omega arith) none_is_none, holds, hold') refl))))))
      where
        none_is_none : None ≢ Some k
        none_is_none e = none-some k e

        grouped : (o : Outcome Vals) → and_then o (λ us t. and_then (args call limit (around facts false w f) es t) (λ vs. follow (first_of_values us ∷ vs))) ≡ and_then (and_then (and_then o (λ us. pure_run (first_of_values us))) (λ v. args call limit (around facts false w f) es >>=ʳ (λ vs. pure_run (v ∷ vs)))) follow
        grouped (Gives us t) = grouped_inside (args call limit (around facts false w f) es t)
          where
            grouped_inside : (o : Outcome Vals) → and_then o (λ vs. follow (first_of_values us ∷ vs)) ≡ and_then (and_then o (λ vs. pure_run (first_of_values us ∷ vs))) follow
            grouped_inside (Gives vs u) = refl
            grouped_inside (Leaves e u) = refl
            grouped_inside (Fails x pl u) = refl
            grouped_inside (NotYet u) = refl
        grouped (Leaves e t) = refl
        grouped (Fails x pl t) = refl
        grouped (NotYet t) = refl
