-- THE, primitives and VALUES do in their graphs what they do.
use Rattle.std.proofs.Common.{◌≡◌, ℕ, suc, ◌+◌, refl, sym, ap, subst, ◌∙◌, arith, Bool, false, List, [], ◌∷◌, ◌++◌, append-nil, Option, Some, None}
use Rattle.std.specs.Prelude.{slice_get}
use Rattle.lisp_base.specs.declared.values.Val.{Val}
use Rattle.lisp_base.specs.declared.values.Place.{Place}
use Rattle.lisp_base.specs.declared.primitives.Primitive.{Primitive as Operation}
use Rattle.lisp_base.specs.Spec.{Spec, spec_size}
use Rattle.core_form.specs.Arithmetic.{arithmetic}
use Rattle.core_form.specs.Tree.{Core, The, Primitive, Values, Cores, no_core, core}
use Rattle.core_form.specs.Facts.{Facts}
use Rattle.core_form.specs.State.{Symbol, State, first_of_values}
use Rattle.core_form.specs.Effect.{Effect, Ended, Gave, Left, Failed, and_then as and_then_effect, ◌>>=◌, pure, change, counting, spend}
use Rattle.core_form.specs.Force.{Vals, Force, expect, check}
use Rattle.core_form.specs.Primitives.{row_of, check_rest, check_row, act, primitive}
use Rattle.core_form.specs.Step.{deliver}
use Rattle.core_form.specs.Run.{Outcome, Gives, Leaves, Fails, NotYet, Run, and_then, outcome, perform, visit, ◌>>=◌ as ◌>>=ʳ◌, ◌>>◌ as ◌>>ʳ◌, pure as pure_run}
use Rattle.core_form.specs.Eval.{Call, eval, args}
use Rattle.icr_graph.specs.declared.nodes.Node.{Node}
use Rattle.icr_graph.specs.declared.nodes.NodeKind.TheVariants as kind
use Rattle.icr_graph.specs.declared.nodes.Operation.TheVariants as operation
use Rattle.icr_graph.specs.Plain.{FlowGraph}
use Rattle.graph_meaning.specs.Machine.{Delivered, value_at, values_at, Activation, advanced, holding, taking, Waiting, Machine, going, after as after_effect}
use Rattle.graph_meaning.specs.Reading.{node_at, first_function, assertions_on}
use Rattle.graph_meaning.specs.Effects.{delivered_by, test, test_all, test_operands, box_before, operate}
use Rattle.graph_meaning.specs.Extents.{spent}
use Rattle.graph_meaning.specs.Running.{first_values, runs_node}
use Rattle.form_graphs.specs.Spots.{Spot, next, Passes, none, through, Asserted}
use Rattle.form_graphs.specs.Standing.{StandsAt, OperandsStandAt, left_after}
use Rattle.form_graphs.specs.Landing.{at_spot, having, Comes}
use Rattle.form_graphs.proofs.Coming.{comes_then, spent_both}
use Rattle.form_graphs.specs.Calling.{around}
use Rattle.form_graphs.proofs.Leaves.{node_gives, Does}
use Rattle.form_graphs.proofs.Operands.{operands_from, operands_do, AllDo}

-- effects one after another
and_then_same : {A B : Type 0} (r : Ended A) (f h : A → Effect B) → ((x : A) (s : State) → f x s ≡ h x s) → and_then_effect r f ≡ and_then_effect r h
and_then_same (Gave x s) f h same = same x s
and_then_same (Left e s) f h same = refl
and_then_same (Failed x p s) f h same = refl

-- effects one after another, and then a machine
pub after_all : {A B : Type 0} (a : Activation) (ws : List Waiting) (r : Ended A) (f : Effect B) (h : B → Effect B) (m : B → State → Machine) →
    after_effect a ws (λ x s. after_effect a ws m (and_then_effect (f s) h)) r ≡ after_effect a ws m (and_then_effect (and_then_effect r (λ x. f)) h)
after_all a ws (Gave x s) f h m = refl
after_all a ws (Left e s) f h m = refl
after_all a ws (Failed x p s) f h m = refl

-- ---- what is asserted on operands

-- nothing after an effect
pub nothing_more : (r : Ended (Unit {0})) → and_then_effect r (λ u s. Gave tt s) ≡ r
nothing_more (Gave u s) = refl
nothing_more (Left e s) = refl
nothing_more (Failed x p s) = refl

-- a value is tested by what is asserted on its continuation
pub one_test : (g : FlowGraph) (f : Force) (k : ℕ) (pl : Place) (t : Spec) (v : Val) (s : State) → Asserted g k pl t → test_all f (assertions_on (g.cont k)) v s ≡ expect f pl t v s
unfolding test_all test pure ◌>>=◌
one_test g f k pl t v s (asserted, only, type, place, checked) = rw (only, checked, type, place) (nothing_more (expect f pl t v s))

-- a row without types tests nothing
no_tests : (f : Force) (pl : Place) (vs : Vals) (s : State) → check_row f pl [] None vs s ≡ Gave tt s
unfolding check_row check_rest pure
no_tests f pl [] s = refl
no_tests f pl (v ∷ vs) s = refl

-- the assertions on operands are the tests of a primitive's row
module _ (g : FlowGraph) (facts : Facts) (rank : ℕ → ℕ) where
  -- of operands that stand so, on their first values
  pub same_tests : (es : Cores) (w : Bool) (pl : Place) (ts : List Spec) (rest : Option Spec) (n low : ℕ) (ks : List ℕ) (p q : Spot) (f : Force) (d : Delivered) (s : State) →
      OperandsStandAt g facts rank w pl es ts rest n low ks p q → test_operands g f d ks s ≡ check_row f pl ts rest (first_values d ks) s
  unfolding test_operands test_all check_row check_rest pure ◌>>=◌
  same_tests no_core w pl [] rest n low ks p q f d s (empty, end) = rw empty refl
  same_tests no_core w pl (t ∷ ts) rest n low ks p q f d s (empty, end) = rw empty refl
  same_tests (core e es) w pl ts rest n low [] p q f d s stand = absurd stand
  same_tests (core e es) w pl (t ∷ ts) rest n low (k ∷ ks) p q f d s (r, above, asserted, stands, stand) =
      rw (one_test g f k pl t (value_at d k) s asserted) (and_then_same (expect f pl t (value_at d k) s) _ _ (λ u s1. same_tests es w pl ts rest 0 (suc (rank k)) ks r q f d s1 stand))
  same_tests (core e es) w pl [] (Some t) n low (k ∷ ks) p q f d s (r, above, asserted, stands, stand) =
      rw (one_test g f k pl t (value_at d k) s asserted) (and_then_same (expect f pl t (value_at d k) s) _ _ (λ u s1. same_tests es w pl [] (Some t) 0 (suc (rank k)) ks r q f d s1 stand))
  same_tests (core e es) w pl [] None n low (k ∷ ks) p q f d s (r, above, asserted, stands, stand) =
      rw asserted (same_tests es w pl [] None 0 (suc (rank k)) ks r q f d s stand ∙ no_tests f pl (first_values d ks) s ∙ sym (no_tests f pl (first_values d (k ∷ ks)) s))

  -- operands without types are not tested
  pub untested : (es : Cores) (w : Bool) (pl : Place) (n low : ℕ) (ks : List ℕ) (p q : Spot) (f : Force) (d : Delivered) (s : State) →
      OperandsStandAt g facts rank w pl es [] None n low ks p q → test_operands g f d ks s ≡ Gave tt s
  untested es w pl n low ks p q f d s stand = same_tests es w pl [] None n low ks p q f d s stand ∙ no_tests f pl (first_values d ks) s

-- stretches of runs one after another
and_then_both : {A B C : Type 0} (o : Outcome A) (f : A → Run B) (h : B → Run C) → and_then o (λ x s. and_then (f x s) h) ≡ and_then (and_then o f) h
and_then_both (Gives x s) f h = refl
and_then_both (Leaves e s) f h = refl
and_then_both (Fails x p s) f h = refl
and_then_both (NotYet s) f h = refl

-- an effect of which the values are these
outcome_then : {A : Type 0} (r : Ended A) (vs : Vals) → outcome (and_then_effect r (λ x. pure vs)) ≡ and_then (outcome r) (λ x. pure_run vs)
unfolding pure pure_run
outcome_then (Gave x s) vs = refl
outcome_then (Left e s) vs = refl
outcome_then (Failed x p s) vs = refl

module _ (symbols : List Symbol) (graphs : List FlowGraph) (number : ℕ) (g : FlowGraph) (facts : Facts) (rank : ℕ → ℕ) (there : slice_get graphs number ≡ Some g) (call : Call) (limit : ℕ) where
  -- Operands, then a node that takes them and gives what an effect of their first values gives.
  pub operands_then_node : (es : Cores) (v w : Bool) (pl : Place) (ts : List Spec) (rest : Option Spec) (n low : ℕ) (ks : List ℕ) (p r q : Spot) (to : Option ℕ) (l : Passes) (f : Force) (a : Activation) (ws : List Waiting) (s : State) (eff : Vals → Effect Vals) (nd : Node) →
      AllDo symbols graphs number g facts rank there call limit es → OperandsStandAt g facts rank v pl es ts rest n low ks p r → a.graph ≡ number → a.force ≡ f → node_at g r.block r.index ≡ Some nd → q ≡ next r →
      ((vs : Vals) (u : State) (d : Delivered) → first_values d ks ≡ vs →
      runs_node g (first_function graphs number) nd (at_spot r (having d a)) ws u ≡ after_effect (taking ks (at_spot r (having d a))) ws (λ us. going (advanced (holding to us (taking ks (at_spot r (having d a))))) ws) (and_then_effect (eff vs (spent (left_after es n) u)) (delivered_by (record { cost = left_after es n; levels = (through w l).levels; boxing = (through w l).boxing })))) →
      Comes symbols graphs rank (going (at_spot p a) ws s) low to q l a ws (and_then (args call limit (around facts false v f) es (spent n s)) (λ vs u. and_then (outcome (eff vs u)) (λ us. perform (deliver w us))))
  operands_then_node es v w pl ts rest n low ks p r q to l f a ws s eff nd all stand at force here end does =
      subst (λ (y : Spot). Comes symbols graphs rank (going (at_spot p a) ws s) low to y l a ws (and_then (args call limit (around facts false v f) es (spent n s)) (λ vs u. and_then (outcome (eff vs u)) (λ us. perform (deliver w us))))) (sym end)
      (operands_do symbols graphs number g facts rank there call limit es v pl ts rest n low low ks p r (next r) to l f a ws s (λ vs u. and_then (outcome (eff vs u)) (λ us. perform (deliver w us))) all stand at force (omega arith)
      (λ vs u d kept same. node_gives symbols graphs number g facts rank there call limit low to r w (left_after es n) l ks (having d a) ws u nd (eff vs (spent (left_after es n) u)) at (operands_from symbols graphs number g facts rank there call limit es v pl ts rest n low ks p r stand) here (does vs u d same)))

  -- VALUES
  pub values_does : (t w : Bool) (pl : Place) (es : Cores) (n : ℕ) (l : Passes) (low : ℕ) (to : Option ℕ) (p q : Spot) → AllDo symbols graphs number g facts rank there call limit es →
      StandsAt g facts rank t w (Values pl es) n l low to p q → Does symbols graphs number g facts rank there call limit t w (Values pl es) n l low to p q
  unfolding eval visit perform spend counting change ◌>>=ʳ◌ box_before operate pure ◌>>=◌
  values_does t w pl es n l low to p q all (ks, r, stand, (b, here), end) f a ws s at force =
      subst (λ (u : State). Comes symbols graphs rank (going (at_spot p a) ws s) low to q l a ws (and_then (args call limit (around facts false false f) es u) (λ vs. perform (deliver w vs)))) (sym (spent_both n 1 s))
      (operands_then_node es false w pl [] None (n + 1) low ks p r q to l f a ws s pure _ all stand at force here end
      (λ vs u d same. rw (untested g facts rank es false pl (n + 1) low ks p r a.force d (spent (left_after es (n + 1)) u) stand, same) refl))

  -- a primitive, whose operands are boxed and tested before it acts
  primitive_runs : (o : Operation) (pl : Place) (es : Cores) (n low : ℕ) (ks : List ℕ) (p r : Spot) (to : Option ℕ) (w : Bool) (b : ℕ) (l : Passes) (a : Activation) (ws : List Waiting) (u : State) →
      OperandsStandAt g facts rank (arithmetic o) pl es (row_of o).types (row_of o).rest n low ks p r →
      runs_node g (first_function graphs number) (record { kind = kind.Combination (operation.Primitive o) ks; cont = to; block = b; place = pl; charges = record { cost = left_after es n; levels = (through w l).levels; boxing = (through w l).boxing } }) (at_spot r a) ws u
      ≡ after_effect (taking ks (at_spot r a)) ws (λ us. going (advanced (holding to us (taking ks (at_spot r a)))) ws) (and_then_effect (primitive a.force pl o (first_values a.delivered ks) (spent (left_after es n) u)) (delivered_by (record { cost = left_after es n; levels = (through w l).levels; boxing = (through w l).boxing })))
  unfolding box_before operate ◌>>=◌ primitive
  primitive_runs o pl es n low ks p r to w b l a ws u stand =
      let tests : test_operands g a.force a.delivered ks ≡ check_row a.force pl (row_of o).types (row_of o).rest (first_values a.delivered ks) = λ i. λ (s : State). same_tests g facts rank es (arithmetic o) pl (row_of o).types (row_of o).rest n low ks p r a.force a.delivered s stand i in
      rw tests
      (after_all (taking ks (at_spot r a)) ws _ (act a.force pl o (first_values a.delivered ks)) (delivered_by (record { cost = left_after es n; levels = (through w l).levels; boxing = (through w l).boxing })) (λ us. going (advanced (holding to us (taking ks (at_spot r a)))) ws))

  -- a primitive
  pub primitive_does : (t w : Bool) (pl : Place) (o : Operation) (es : Cores) (n : ℕ) (l : Passes) (low : ℕ) (to : Option ℕ) (p q : Spot) → AllDo symbols graphs number g facts rank there call limit es →
      StandsAt g facts rank t w (Primitive pl o es) n l low to p q → Does symbols graphs number g facts rank there call limit t w (Primitive pl o es) n l low to p q
  unfolding eval visit perform spend counting change ◌>>=ʳ◌
  primitive_does t w pl o es n l low to p q all (ks, r, stand, (b, here), end) f a ws s at force =
      subst (λ (u : State). Comes symbols graphs rank (going (at_spot p a) ws s) low to q l a ws (and_then (and_then (args call limit (around facts false (arithmetic o) f) es u) (λ vs. perform (primitive f pl o vs))) (λ vs. perform (deliver w vs)))) (sym (spent_both n 1 s))
      (subst (Comes symbols graphs rank (going (at_spot p a) ws s) low to q l a ws) (and_then_both (args call limit (around facts false (arithmetic o) f) es (spent (n + 1) s)) (λ vs. perform (primitive f pl o vs)) (λ vs. perform (deliver w vs)))
      (operands_then_node es (arithmetic o) w pl (row_of o).types (row_of o).rest (n + 1) low ks p r q to l f a ws s (primitive f pl o) _ all stand at force here end
      (λ vs u d same. rw (sym same, sym force) (primitive_runs o pl es (n + 1) low ks p r to w b l (having d a) ws u stand))))

  -- a value passes when it has been tested
  passes_on : (pl : Place) (type : Spec) (j : ℕ) (r : Spot) (to : Option ℕ) (w : Bool) (b : ℕ) (l : Passes) (a : Activation) (ws : List Waiting) (u : State) → Asserted g j pl type →
      runs_node g (first_function graphs number) (record { kind = kind.Combination operation.Pass (j ∷ []); cont = to; block = b; place = pl; charges = record { cost = spec_size type; levels = (through w l).levels; boxing = (through w l).boxing } }) (at_spot r a) ws u
      ≡ after_effect (taking (j ∷ []) (at_spot r a)) ws (λ us. going (advanced (holding to us (taking (j ∷ []) (at_spot r a)))) ws) (and_then_effect (and_then_effect (check a.force pl type (value_at a.delivered j) u) (λ x. pure (values_at a.delivered j))) (delivered_by (record { cost = spec_size type; levels = (through w l).levels; boxing = (through w l).boxing })))
  unfolding box_before test_operands operate ◌>>=◌ pure check spend counting change
  passes_on pl type j r to w b l a ws u asserted =
      rw (one_test g a.force j pl type (value_at a.delivered j) (spent (spec_size type) u) asserted, nothing_more (expect a.force pl type (value_at a.delivered j) (spent (spec_size type) u)))
      (after_all (taking (j ∷ []) (at_spot r a)) ws (expect a.force pl type (value_at a.delivered j) (spent (spec_size type) u)) (pure (values_at a.delivered j ++ [])) (delivered_by (record { cost = spec_size type; levels = (through w l).levels; boxing = (through w l).boxing })) (λ us. going (advanced (holding to us (taking (j ∷ []) (at_spot r a)))) ws)
      ∙ ap (λ (vs : Vals). after_effect (taking (j ∷ []) (at_spot r a)) ws (λ us. going (advanced (holding to us (taking (j ∷ []) (at_spot r a)))) ws) (and_then_effect (and_then_effect (expect a.force pl type (value_at a.delivered j) (spent (spec_size type) u)) (λ x. pure vs)) (delivered_by (record { cost = spec_size type; levels = (through w l).levels; boxing = (through w l).boxing })))) (append-nil (values_at a.delivered j)))

  -- THE
  pub the_does : (t w : Bool) (pl : Place) (type : Spec) (e : Core) (n : ℕ) (l : Passes) (low : ℕ) (to : Option ℕ) (p q : Spot) →
      ((j : ℕ) (r : Spot) → StandsAt g facts rank false w e (n + 1) none low (Some j) p r → Does symbols graphs number g facts rank there call limit false w e (n + 1) none low (Some j) p r) →
      StandsAt g facts rank t w (The pl type e) n l low to p q → Does symbols graphs number g facts rank there call limit t w (The pl type e) n l low to p q
  unfolding eval visit perform spend counting change ◌>>=ʳ◌ pure_run pure
  the_does t w pl type e n l low to p q part (j, r, above, asserted, stands, (b, here), end) f a ws s at force =
      subst (λ (u : State). Comes symbols graphs rank (going (at_spot p a) ws s) low to q l a ws (and_then (and_then (eval call limit (around facts false w f) e u) (λ vs. perform (check f pl type (first_of_values vs)) >>ʳ pure_run vs)) (λ vs. perform (deliver w vs)))) (sym (spent_both n 1 s))
      (subst (λ (y : Spot). Comes symbols graphs rank (going (at_spot p a) ws s) low to y l a ws (and_then (and_then (eval call limit (around facts false w f) e (spent (n + 1) s)) (λ vs. perform (check f pl type (first_of_values vs)) >>ʳ pure_run vs)) (λ vs. perform (deliver w vs)))) (sym end)
      (subst (Comes symbols graphs rank (going (at_spot p a) ws s) low to (next r) l a ws) (and_then_both (eval call limit (around facts false w f) e (spent (n + 1) s)) (λ vs. perform (check f pl type (first_of_values vs)) >>ʳ pure_run vs) (λ vs. perform (deliver w vs)))
      (comes_then symbols graphs rank (going (at_spot p a) ws s) low j r (next r) to l a ws (eval call limit (around facts false w f) e (spent (n + 1) s)) (λ vs u. and_then ((perform (check f pl type (first_of_values vs)) >>ʳ pure_run vs) u) (λ us. perform (deliver w us))) above
      (part j r stands f a ws s at force)
      (λ vs u d kept holds.
      subst (λ (o : Outcome Vals). Comes symbols graphs rank (going (at_spot r (having d a)) ws u) low to (next r) l (having d a) ws (and_then o (λ us. perform (deliver w us)))) (outcome_then (check f pl type (first_of_values vs) u) vs)
      (node_gives symbols graphs number g facts rank there call limit low to r w (spec_size type) l (j ∷ []) (having d a) ws u _ (and_then_effect (check f pl type (first_of_values vs) u) (λ x. pure vs)) at (above, tt) here
      (passes_on pl type j r to w b l (having d a) ws u asserted ∙ rw (holds, force) refl))))))
