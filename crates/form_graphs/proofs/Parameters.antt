-- The parameters of a function do in its graph what they do.
use Rattle.std.proofs.Common.{◌≡◌, ℕ, zero, suc, ◌≤◌, ◌<◌, refl, sym, ap, subst, ◌∙◌, arith, Bool, false, List, [], ◌∷◌, ◌++◌, length, Option, Some}
use Rattle.std.proofs.lemmas.List.{append-nil}
use Rattle.std.specs.Prelude.{slice_get, drop}
use Rattle.lisp_base.specs.declared.values.Val.{Val}
use Rattle.lisp_base.specs.declared.values.Place.{Place}
use Rattle.lisp_base.specs.Spec.{Spec, spec_size}
use Rattle.core_form.specs.Tree.{Parameter}
use Rattle.core_form.specs.Facts.{Facts}
use Rattle.core_form.specs.State.{Symbol, State, first_of_values}
use Rattle.core_form.specs.Effect.{Ended, Gave, Left, Failed, and_then as and_then_effect, ◌>>=◌, pure, change, counting, spend, deliver_more, boxes_more}
use Rattle.core_form.specs.Force.{Vals, expect, check, check_all}
use Rattle.core_form.specs.Primitives.{argument}
use Rattle.core_form.specs.Step.{Around}
use Rattle.core_form.specs.Run.{Outcome, Run, and_then, outcome, perform, ◌>>=◌ as ◌>>=ʳ◌}
use Rattle.core_form.specs.Eval.{with_variable, with_parameter}
use Rattle.icr_graph.specs.declared.nodes.Node.{Node}
use Rattle.icr_graph.specs.declared.nodes.NodeKind.TheVariants as kind
use Rattle.icr_graph.specs.declared.nodes.Leaf.{Leaf}
use Rattle.icr_graph.specs.declared.nodes.Operation.TheVariants as operation
use Rattle.icr_graph.specs.Plain.{FlowGraph}
use Rattle.graph_meaning.specs.Machine.{Delivered, delivered_to, without_all, or_no_values, values_at, value_at, Activation, advanced, holding, taking, Waiting, Machine, going, after as after_effect}
use Rattle.graph_meaning.specs.Reading.{first_function}
use Rattle.graph_meaning.specs.Effects.{delivered_by, leaf_values, box_before, test_operands, operate}
use Rattle.graph_meaning.specs.Extents.{spent}
use Rattle.graph_meaning.specs.Running.{step, runs_node}
use Rattle.form_graphs.specs.Spots.{Spot, next, Passes, none, Here, Unasserted, Asserted}
use Rattle.form_graphs.specs.Standing.{UnboundAt}
use Rattle.form_graphs.specs.Functions.{ChecksStandAt, ParameterStandsAt}
use Rattle.form_graphs.specs.Landing.{at_spot, having, Keeps, Comes}
use Rattle.form_graphs.specs.Calling.{around}
use Rattle.form_graphs.proofs.Coming.{one_step, stays, comes_after, comes_having, passes_none, spent_none, delivered_holds}
use Rattle.form_graphs.proofs.Leaves.{runs_there}
use Rattle.form_graphs.proofs.Combining.{one_test, nothing_more, after_all}
use Rattle.form_graphs.proofs.Bindings.{variable_comes, tail_in, force_in, within}

-- ---- arguments

-- the arguments from a number on that is below theirs
pub argument_there : (i : ℕ) (vs : Vals) → i < length vs → drop i vs ≡ argument i vs ∷ drop (suc i) vs
argument_there i [] less = absurd (omega (arith, less))
argument_there zero (v ∷ vs) less = refl
argument_there (suc i) (v ∷ vs) less = argument_there i vs (omega (arith, less))

none_dropped : (i : ℕ) → drop {A = Val} i [] ≡ []
none_dropped zero = refl
none_dropped (suc i) = refl

pub arguments_over : (i : ℕ) (vs : Vals) → length vs ≤ i → drop i vs ≡ []
arguments_over i [] over = none_dropped i
arguments_over zero (v ∷ vs) over = absurd (omega (arith, over))
arguments_over (suc i) (v ∷ vs) over = arguments_over i vs (omega (arith, over))

-- nothing has a rank below 0
pub keeps_nothing : (rank : ℕ → ℕ) (to : Option ℕ) (d d' : Delivered) → Keeps rank 0 to d d'
keeps_nothing rank to d d' j less = absurd (omega (arith, less))

module _ (symbols : List Symbol) (graphs : List FlowGraph) (number : ℕ) (g : FlowGraph) (facts : Facts) (rank : ℕ → ℕ) (there : slice_get graphs number ≡ Some g) where
  -- a run may begin with other values delivered, since nothing has to be kept
  from_having : (m : Machine) (to : Option ℕ) (q : Spot) (l : Passes) (a : Activation) (d : Delivered) (ws : List Waiting) (o : Outcome Vals) →
      Comes symbols graphs rank m 0 to q l (having d a) ws o → Comes symbols graphs rank m 0 to q l a ws o
  from_having m to q l a d ws o came = comes_having symbols graphs rank m 0 0 to q l a d ws o (omega arith) (keeps_nothing rank to a.delivered d) came

  -- ---- checks

  -- a node passes values on that meet a type
  abbrev check_node : Spec → ℕ → Place → (k i : ℕ) → Node
  check_node t b pl k i =
      record { kind = kind.Combination operation.Pass (k ∷ []); cont = Some i; block = b; place = pl; charges = record { cost = spec_size t; levels = 0; boxing = 0 } }

  check_runs : (pl : Place) (t : Spec) (k i b : ℕ) (p : Spot) (us : Vals) (a : Activation) (ws : List Waiting) (s : State) → Asserted g k pl t → a.delivered k ≡ Some us →
      runs_node g (first_function graphs number) (check_node t b pl k i) (at_spot p a) ws s
      ≡ after_effect (taking (k ∷ []) (at_spot p a)) ws (λ vs. going (advanced (holding (Some i) vs (taking (k ∷ []) (at_spot p a)))) ws) (and_then_effect (and_then_effect (check a.force pl t (first_of_values us) s) (λ x. pure us)) (delivered_by (record { cost = spec_size t; levels = 0; boxing = 0 })))
  unfolding box_before test_operands operate ◌>>=◌ pure check spend counting change
  check_runs pl t k i b p us a ws s asserted holds =
      rw (one_test g a.force k pl t (value_at a.delivered k) (spent (spec_size t) s) asserted, nothing_more (expect a.force pl t (value_at a.delivered k) (spent (spec_size t) s)))
      (after_all (taking (k ∷ []) (at_spot p a)) ws (expect a.force pl t (value_at a.delivered k) (spent (spec_size t) s)) (pure (values_at a.delivered k ++ [])) (delivered_by (record { cost = spec_size t; levels = 0; boxing = 0 })) (λ vs. going (advanced (holding (Some i) vs (taking (k ∷ []) (at_spot p a)))) ws)
      ∙ rw (holds, append-nil us) refl)

  check_ended : (pl : Place) (t : Spec) (ts : List Spec) (k i : ℕ) (p q : Spot) (to : Option ℕ) (l : Passes) (us : Vals) (a : Activation) (ws : List Waiting) (next' : Run Vals) (r : Ended (Unit {0})) →
      ((d : Delivered) (u : State) → d i ≡ Some us → Comes symbols graphs rank (going (at_spot (next p) (having d a)) ws u) 0 to q l (having d a) ws (and_then (outcome (check_all a.force pl ts (first_of_values us) u)) (λ x. next'))) →
      Comes symbols graphs rank (after_effect (taking (k ∷ []) (at_spot p a)) ws (λ vs. going (advanced (holding (Some i) vs (taking (k ∷ []) (at_spot p a)))) ws) (and_then_effect (and_then_effect r (λ x. pure us)) (delivered_by (record { cost = spec_size t; levels = 0; boxing = 0 })))) 0 to q l a ws (and_then (outcome (and_then_effect r (λ x. check_all a.force pl ts (first_of_values us)))) (λ x. next'))
  unfolding delivered_by deliver_more boxes_more counting change ◌>>=◌ pure
  check_ended pl t ts k i p q to l us a ws next' (Gave u s) follows =
      let d : Delivered = delivered_to (Some i) us (without_all (k ∷ []) a.delivered) in
      from_having _ to q l a d ws _ (subst (λ (v : State). Comes symbols graphs rank (going (at_spot (next p) (having d a)) ws v) 0 to q l (having d a) ws (and_then (outcome (check_all a.force pl ts (first_of_values us) s)) (λ x. next'))) (sym (passes_none us s)) (follows d s (delivered_holds (Some i) us (without_all (k ∷ []) a.delivered))))
  check_ended pl t ts k i p q to l us a ws next' (Left e s) follows =
      (without_all (k ∷ []) a.delivered, p, a.force, keeps_nothing rank to a.delivered (without_all (k ∷ []) a.delivered), stays symbols graphs _)
  check_ended pl t ts k i p q to l us a ws next' (Failed x pl' s) follows = (taking (k ∷ []) (at_spot p a), ws, stays symbols graphs _)

  -- the checks of a value, one after another, and then what follows
  checks_comes : (ts : List Spec) (pl : Place) (k j : ℕ) (p r q : Spot) (to : Option ℕ) (l : Passes) (us : Vals) (a : Activation) (ws : List Waiting) (s : State) (next' : Run Vals) → a.graph ≡ number →
      ChecksStandAt g facts rank pl ts k j p r → a.delivered k ≡ Some us →
      ((d : Delivered) (u : State) → d j ≡ Some us → Unasserted g j → Comes symbols graphs rank (going (at_spot r (having d a)) ws u) 0 to q l (having d a) ws (next' u)) →
      Comes symbols graphs rank (going (at_spot p a) ws s) 0 to q l a ws (and_then (outcome (check_all a.force pl ts (first_of_values us) s)) (λ x. next'))
  unfolding check_all pure ◌>>=◌
  checks_comes [] pl k j p r q to l us a ws s next' at (free, same, end) holds follows =
      subst (λ (z : Spot). Comes symbols graphs rank (going (at_spot z a) ws s) 0 to q l a ws (next' s)) (sym end)
      (follows a.delivered s (subst (λ (n : ℕ). a.delivered n ≡ Some us) same holds) (subst (λ (n : ℕ). Unasserted g n) same free))
  checks_comes (t ∷ ts) pl k j p r q to l us a ws s next' at (i, asserted, (b, here), stand) holds follows =
      comes_after symbols graphs rank (going (at_spot p a) ws s) (step symbols graphs (going (at_spot p a) ws s)) 0 to q l a ws _ (one_step symbols graphs (going (at_spot p a) ws s))
      (rw (runs_there symbols graphs number g facts rank there p _ a ws s at here ∙ check_runs pl t k i b p us a ws s asserted holds)
      (check_ended pl t ts k i p q to l us a ws next' (check a.force pl t (first_of_values us) s)
      (λ d u has. checks_comes ts pl i j (next p) r q to l us (having d a) ws u next' at stand has (λ d' v has' free. follows d' v has' free))))

  -- ---- a value, and what is done with it

  -- a reference without charges gives what its effect gives
  ref_ended : (p q : Spot) (to : Option ℕ) (l : Passes) (k : ℕ) (a : Activation) (ws : List Waiting) (r : Ended Vals) (follow : Vals → Run Vals) →
      ((us : Vals) (d : Delivered) (u : State) → d k ≡ Some us → Comes symbols graphs rank (going (at_spot (next p) (having d a)) ws u) 0 to q l (having d a) ws (follow us u)) →
      Comes symbols graphs rank (after_effect (taking [] (at_spot p a)) ws (λ vs. going (advanced (holding (Some k) vs (taking [] (at_spot p a)))) ws) (and_then_effect r (delivered_by (record { cost = 0; levels = 0; boxing = 0 })))) 0 to q l a ws (and_then (outcome r) follow)
  unfolding delivered_by deliver_more boxes_more counting change ◌>>=◌ pure
  ref_ended p q to l k a ws (Gave us s) follow follows =
      let d : Delivered = delivered_to (Some k) us a.delivered in
      from_having _ to q l a d ws _ (subst (λ (v : State). Comes symbols graphs rank (going (at_spot (next p) (having d a)) ws v) 0 to q l (having d a) ws (follow us s)) (sym (passes_none us s)) (follows us d s (delivered_holds (Some k) us a.delivered)))
  ref_ended p q to l k a ws (Left e s) follow follows = (a.delivered, p, a.force, keeps_nothing rank to a.delivered a.delivered, stays symbols graphs _)
  ref_ended p q to l k a ws (Failed x pl s) follow follows = (taking [] (at_spot p a), ws, stays symbols graphs _)

  pub ref_comes : (p q : Spot) (to : Option ℕ) (l : Passes) (pl : Place) (x : Leaf) (k : ℕ) (a : Activation) (ws : List Waiting) (s : State) (follow : Vals → Run Vals) → a.graph ≡ number →
      Here g p (kind.Ref x) (Some k) pl 0 none →
      ((us : Vals) (d : Delivered) (u : State) → d k ≡ Some us → Comes symbols graphs rank (going (at_spot (next p) (having d a)) ws u) 0 to q l (having d a) ws (follow us u)) →
      Comes symbols graphs rank (going (at_spot p a) ws s) 0 to q l a ws (and_then (outcome (leaf_values g (first_function graphs number) (at_spot p a) pl x s)) follow)
  unfolding box_before test_operands ◌>>=◌ pure
  ref_comes p q to l pl x k a ws s follow at (b, here) follows =
      comes_after symbols graphs rank (going (at_spot p a) ws s) (step symbols graphs (going (at_spot p a) ws s)) 0 to q l a ws _ (one_step symbols graphs (going (at_spot p a) ws s))
      (rw (runs_there symbols graphs number g facts rank there p _ a ws s at here, spent_none s) (ref_ended p q to l k a ws (leaf_values g (first_function graphs number) (at_spot p a) pl x s) follow follows))

  -- a parameter, whose value a continuation holds: its checks, its variable, then what follows, and the end of the variable's extent
  pub parameter_comes : (x : Parameter) (pl : Place) (k : ℕ) (p r y z : Spot) (to : Option ℕ) (l : Passes) (t : Bool) (us : Vals) (body : Around → Run Vals) (a : Activation) (ws : List Waiting) (s : State) → a.graph ≡ number →
      ParameterStandsAt g facts rank pl x k p r → UnboundAt g facts rank pl x.variable y z → a.delivered k ≡ Some us →
      ((b : Activation) (ws' : List Waiting) (u : State) → b.graph ≡ number → b.arguments ≡ a.arguments → Comes symbols graphs rank (going (at_spot r b) ws' u) 0 to y l b ws' (body (around facts (tail_in symbols graphs number g facts rank there x.variable t) false b.force) u)) →
      Comes symbols graphs rank (going (at_spot p a) ws s) 0 to z l a ws (with_parameter (around facts t false a.force) pl x (first_of_values us) body s)
  unfolding with_parameter perform ◌>>=ʳ◌
  parameter_comes x pl k p r y z to l t us body a ws s at (j, i, checks, bound, end) unbound holds follows =
      checks_comes x.types pl k j p i z to l us a ws s (with_variable (around facts t false a.force) x.variable (first_of_values us) body) at checks holds
      (λ d u has free. subst (λ (v : Val). Comes symbols graphs rank (going (at_spot i (having d a)) ws u) 0 to z l (having d a) ws (with_variable (around facts t false a.force) x.variable v body u)) (ap (λ (o : Option Vals). first_of_values (or_no_values o)) has)
      (variable_comes symbols graphs number g facts rank there x.variable 0 to i z y l pl t false j body (having d a) ws u at (omega arith) free bound unbound
      (λ ws' v. subst (λ (q : Spot). Comes symbols graphs rank (going (at_spot q (within symbols graphs number g facts rank there x.variable j (having d a))) ws' v) 0 to y l (within symbols graphs number g facts rank there x.variable j (having d a)) ws' (body (around facts (tail_in symbols graphs number g facts rank there x.variable t) false (force_in symbols graphs number g facts rank there x.variable a.force)) v)) end
      (follows (within symbols graphs number g facts rank there x.variable j (having d a)) ws' v at refl))))

  -- a reference without charges that gives this value, and then what follows
  pub value_comes : (p q : Spot) (to : Option ℕ) (l : Passes) (pl : Place) (x : Leaf) (k : ℕ) (v : Val) (a : Activation) (ws : List Waiting) (s : State) (o : Outcome Vals) → a.graph ≡ number →
      Here g p (kind.Ref x) (Some k) pl 0 none → leaf_values g (first_function graphs number) (at_spot p a) pl x s ≡ Gave (v ∷ []) s →
      ((d : Delivered) → d k ≡ Some (v ∷ []) → Comes symbols graphs rank (going (at_spot (next p) (having d a)) ws s) 0 to q l (having d a) ws o) →
      Comes symbols graphs rank (going (at_spot p a) ws s) 0 to q l a ws o
  unfolding box_before test_operands ◌>>=◌ pure delivered_by deliver_more boxes_more counting change
  value_comes p q to l pl x k v a ws s o at (b, here) is follows =
      let d : Delivered = delivered_to (Some k) (v ∷ []) a.delivered in
      comes_after symbols graphs rank (going (at_spot p a) ws s) (step symbols graphs (going (at_spot p a) ws s)) 0 to q l a ws _ (one_step symbols graphs (going (at_spot p a) ws s))
      (rw (runs_there symbols graphs number g facts rank there p _ a ws s at here, spent_none s, is)
      (from_having _ to q l a d ws o (subst (λ (u : State). Comes symbols graphs rank (going (at_spot (next p) (having d a)) ws u) 0 to q l (having d a) ws o) (sym (passes_none (v ∷ []) s)) (follows d (delivered_holds (Some k) (v ∷ []) a.delivered)))))
