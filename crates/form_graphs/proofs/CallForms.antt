-- Forms that call do in their graphs what they do.
use Rattle.std.proofs.Common.{inl, inr, ◌≡◌, ℕ, suc, ◌+◌, ◌≤◌, refl, sym, ap, subst, ◌∙◌, arith, Bool, true, false, List, [], ◌∷◌, length, Option, Some, None}
use Rattle.std.proofs.lemmas.Option.{none-some}
use Rattle.std.specs.Prelude.{slice_get}
use Rattle.lisp_base.specs.declared.values.SymId.{SymId}
use Rattle.lisp_base.specs.declared.values.Val.{Val}
use Rattle.lisp_base.specs.declared.values.Place.{Place}
use Rattle.core_form.specs.Tree.{Lambda, lambda, Core, CallGlobal, CallLocal, Funcall, Apply, Cores, cores_length}
use Rattle.core_form.specs.Facts.{FunctionText, Facts, lookup}
use Rattle.core_form.specs.State.{Symbol, State, first_of_values}
use Rattle.core_form.specs.Effect.{Effect, Ended, Gave, Left, Failed, and_then as and_then_effect, ◌>>=◌, pure, spend, counting, change, allot, hold}
use Rattle.core_form.specs.Force.{Vals, Force}
use Rattle.core_form.specs.Step.{capture, code_number, deliver, designated, spread}
use Rattle.core_form.specs.Run.{Outcome, Gives, Leaves, Fails, NotYet, Run, and_then, outcome, perform, visit, first, ◌>>=◌ as ◌>>=ʳ◌, pure as pure_run}
use Rattle.core_form.specs.Eval.{Call, call_value, call_symbol, call_local, funcall, apply, known, known_or, eval, args}
use Rattle.icr_graph.specs.declared.nodes.NodeKind.{NodeKind}
use Rattle.icr_graph.specs.Plain.{FlowGraph}
use Rattle.graph_meaning.specs.Machine.{Delivered, value_at, Activation, taking, Waiting, Machine, going, after as after_effect}
use Rattle.graph_meaning.specs.Reading.{node_at}
use Rattle.graph_meaning.specs.Effects.{test_operands, test_all}
use Rattle.graph_meaning.specs.Running.{calling, calls, first_values}
use Rattle.graph_meaning.specs.Extents.{spent}
use Rattle.form_graphs.specs.Spots.{Unasserted, Spot, next, Passes, none, through, Here}
use Rattle.form_graphs.specs.Standing.{IsFunction, AllBelow, lambda_number, IsFree, StandsAt, OperandsStandAt, left_after}
use Rattle.form_graphs.specs.Landing.{at_spot, having, Keeps, Comes}
use Rattle.form_graphs.specs.Calling.{around, CallsDo}
use Rattle.form_graphs.proofs.Coming.{From, one_step, comes_after, spent_both, spent_none}
use Rattle.form_graphs.proofs.Leaves.{Does, runs_there}
use Rattle.core_form.specs.Primitives.{global_function}
use Rattle.icr_graph.specs.declared.nodes.NodeKind.TheVariants as kind
use Rattle.icr_graph.specs.declared.nodes.Leaf.TheVariants as leaf
use Rattle.icr_graph.specs.declared.nodes.Operation.TheVariants as operation
use Rattle.graph_meaning.specs.Reading.{first_function, closed_by}
use Rattle.graph_meaning.specs.Effects.{box_before, leaf_values, closed_values, captured as captured_by_graph}
use Rattle.graph_meaning.specs.Running.{step, runs_node}
use Rattle.form_graphs.proofs.Calls.{node_for, none_left, regroup, effect_then, call_comes, value_comes, node_there, untested, from_operands, comes_then_from, leaf_then, Everywhere, AllDo, operands_then}
use Rattle.form_graphs.proofs.Data.{same_captured}

number_of_code : (facts : Facts) (k : Lambda) → code_number facts k ≡ facts.start + lambda_number k
number_of_code facts (lambda k xs os r e) = refl

module _ (symbols : List Symbol) (graphs : List FlowGraph) (number : ℕ) (g : FlowGraph) (facts : Facts) (rank : ℕ → ℕ) (there : slice_get graphs number ≡ Some g) (call : Call) (limit : ℕ) (calls_do : CallsDo symbols graphs call) where
  abbrev Form_does : (tail word : Bool) → Core → (cost : ℕ) → Passes → (low : ℕ) → Option ℕ → Spot → Spot → Type 0
  Form_does t w e n l low to p q = Does symbols graphs number g facts rank there call limit t w e n l low to p q

  abbrev Wherever : (tail word : Bool) → Core → Type 0
  Wherever t w e = Everywhere symbols graphs number g rank there facts call limit t w e

  abbrev All : Cores → Type 0
  All es = AllDo symbols graphs number g rank there facts call limit false es

  -- a form that is visited comes to where what it does comes
  pub visited : (m : Machine) (low : ℕ) (to : Option ℕ) (q q' : Spot) (t w : Bool) (n : ℕ) (l : Passes) (f : Force) (a : Activation) (ws : List Waiting) (s : State) (run : Run Vals) → q ≡ q' →
      Comes symbols graphs rank m low to q' l a ws (and_then (run (spent (n + 1) s)) (λ us. perform (deliver w us))) → Comes symbols graphs rank m low to q l a ws (visit (around facts t w f) run (spent n s))
  unfolding visit perform spend counting change ◌>>=ʳ◌
  visited m low to q q' t w n l f a ws s run end came =
      subst (λ (y : Spot). Comes symbols graphs rank m low to y l a ws (and_then (run (spent 1 (spent n s))) (λ us. perform (deliver w us)))) (sym end)
      (subst (λ (u : State). Comes symbols graphs rank m low to q' l a ws (and_then (run u) (λ us. perform (deliver w us)))) (sym (spent_both n 1 s)) came)

  -- a node has its operands, and calls what an effect gives
  pub node_calls : {A : Type 0} → (low : ℕ) (to : Option ℕ) (p : Spot) (t w : Bool) (n : ℕ) (l : Passes) (ks : List ℕ) (f : Force) (a : Activation) (ws : List Waiting) (s : State) (k : NodeKind) (b : ℕ) (pl : Place) (r : Ended A) (called : A → Val) (vs : A → Vals) → From rank low ks →
      a.graph ≡ number → a.force ≡ f → node_at g p.block p.index ≡ Some (node_for k to b pl n (through w l)) →
      runs_node g (first_function graphs number) (node_for k to b pl n (through w l)) (at_spot p a) ws s ≡ after_effect (taking ks (at_spot p a)) ws (λ v. calls (node_for k to b pl n (through w l)) t (vs v) (called v) (taking ks (at_spot p a)) ws) r →
      Comes symbols graphs rank (going (at_spot p a) ws s) low to (next p) l a ws (and_then (outcome r) (λ v u. and_then (call_value call (around facts t w f) (vs v) (called v) u) (λ us. perform (deliver w us))))
  node_calls low to p t w n l ks f a ws s k b pl r called vs from at force here does =
      comes_after symbols graphs rank (going (at_spot p a) ws s) (step symbols graphs (going (at_spot p a) ws s)) low to (next p) l a ws
      (and_then (outcome r) (λ v u. and_then (call_value call (around facts t w f) (vs v) (called v) u) (λ us. perform (deliver w us))))
      (one_step symbols graphs (going (at_spot p a) ws s))
      (rw (runs_there symbols graphs number g facts rank there p (node_for k to b pl n (through w l)) a ws s at here, does)
      (effect_then symbols graphs rank low to p (next p) l ks a ws (λ v. calls (node_for k to b pl n (through w l)) t (vs v) (called v) (taking ks (at_spot p a)) ws) (λ v u. and_then (call_value call (around facts t w f) (vs v) (called v) u) (λ us. perform (deliver w us))) r from
      (λ v u. value_comes symbols graphs rank call calls_do facts low to p t w n l ks f a ws k b pl (vs v) (called v) u from force (node_there symbols graphs number g rank there p _ ks a at here))))

  pub call_global_does : (t w : Bool) (pl : Place) (x : SymId) (es : Cores) (n : ℕ) (l : Passes) (low : ℕ) (to : Option ℕ) (p q : Spot) → All es →
      StandsAt g facts rank t w (CallGlobal pl x es) n l low to p q → Form_does t w (CallGlobal pl x es) n l low to p q
  unfolding eval ◌>>=ʳ◌ call_symbol first perform pure_run ◌>>=◌ pure box_before
  call_global_does t w pl x es n l low to p q parts (ks, r, stands, (b, here), end) f a ws s at force =
      visited (going (at_spot p a) ws s) low to q (next r) t w n l f a ws s (args call limit (around facts false false f) es >>=ʳ call_symbol call (around facts t w f) pl x) end
      (subst (Comes symbols graphs rank (going (at_spot p a) ws s) low to (next r) l a ws) (regroup (args call limit (around facts false false f) es (spent (n + 1) s)) (call_symbol call (around facts t w f) pl x) (λ us. perform (deliver w us)))
      (operands_then symbols graphs number g rank there facts call limit false pl es [] None (n + 1) low low ks f a ws s p r (next r) to l (λ vs u. and_then (call_symbol call (around facts t w f) pl x vs u) (λ us. perform (deliver w us))) (omega arith) parts stands at force
      (λ vs u d kept holds. subst (Comes symbols graphs rank (going (having d (at_spot r a)) ws u) low to (next r) l (having d a) ws) (symbol_called vs (global_function f pl x (spent (left_after es (n + 1)) u)))
      (node_calls low to r t w (left_after es (n + 1)) l ks f (having d a) ws u (kind.Combination (operation.CallGlobal x t) ks) b pl (global_function f pl x (spent (left_after es (n + 1)) u)) first_of_values (λ v. vs)
      (from_operands symbols graphs number g rank there pl es [] None false low low ks facts p r (n + 1) (omega arith) stands) at force here
      (rw (untested symbols graphs number g rank there a.force pl es low ks facts p r (n + 1) d (spent (left_after es (n + 1)) u) stands, force, holds) refl)))))
    where
      symbol_called : (vs : Vals) (r : Ended Vals) → and_then (outcome r) (λ v u. and_then (call_value call (around facts t w f) vs (first_of_values v) u) (λ us. perform (deliver w us))) ≡ and_then (and_then (and_then (outcome r) (λ v. pure_run (first_of_values v))) (call_value call (around facts t w f) vs)) (λ us. perform (deliver w us))
      symbol_called vs (Gave v u) = refl
      symbol_called vs (Left e u) = refl
      symbol_called vs (Failed y q u) = refl

  -- A function form and operands, and then a node that has their values and comes to what these do.
  function_then_operands : (pl : Place) (e : Core) (es : Cores) (n low k : ℕ) (ks : List ℕ) (p r x : Spot) (to : Option ℕ) (w : Bool) (l : Passes) (f : Force) (a : Activation) (ws : List Waiting) (s : State) (run : Val → Vals → Run Vals) → Wherever false false e → All es →
      low ≤ rank k → StandsAt g facts rank false false e n none low (Some k) p r → OperandsStandAt g facts rank false pl es [] None 0 (suc (rank k)) ks r x → a.graph ≡ number → a.force ≡ f →
      ((v : Val) (vs : Vals) (u : State) (d : Delivered) → value_at d k ≡ v → first_values d ks ≡ vs → Comes symbols graphs rank (going (having d (at_spot x a)) ws u) low to (next x) l (having d a) ws (and_then (run v vs u) (λ us. perform (deliver w us)))) →
      Comes symbols graphs rank (going (at_spot p a) ws s) low to (next x) l a ws (and_then ((first (eval call limit (around facts false false f) e) >>=ʳ (λ v. args call limit (around facts false false f) es >>=ʳ run v)) (spent n s)) (λ us. perform (deliver w us)))
  unfolding first pure_run ◌>>=ʳ◌
  function_then_operands pl e es n low k ks p r x to w l f a ws s run part parts less stands others_stand at force follows =
      subst (Comes symbols graphs rank (going (at_spot p a) ws s) low to (next x) l a ws) (grouped (eval call limit (around facts false false f) e (spent n s)))
      (comes_then_from symbols graphs number g rank there (going (at_spot p a) ws s) low low k r (next x) to l a ws (eval call limit (around facts false false f) e (spent n s))
      (λ us t. and_then (args call limit (around facts false false f) es t) (λ vs u. and_then (run (first_of_values us) vs u) (λ us. perform (deliver w us)))) (omega arith) less (part n none low (Some k) p r stands f a ws s at force)
      (λ us t d kept holds.
      subst (λ (u : State). Comes symbols graphs rank (going (having d (at_spot r a)) ws t) low to (next x) l (having d a) ws (and_then (args call limit (around facts false false f) es u) (λ vs u. and_then (run (first_of_values us) vs u) (λ us. perform (deliver w us))))) (spent_none t)
      (operands_then symbols graphs number g rank there facts call limit false pl es [] None 0 low (suc (rank k)) ks f (having d a) ws t r x (next x) to l (λ vs u. and_then (run (first_of_values us) vs u) (λ us. perform (deliver w us))) (omega (arith, less)) parts others_stand at force
      (λ vs u d' kept' hold'.
      subst (λ (t : State). Comes symbols graphs rank (going (having d' (at_spot x a)) ws u) low to (next x) l (having d' a) ws (and_then (run (first_of_values us) vs t) (λ us. perform (deliver w us)))) (sym (spent_nothing u))
      (follows (first_of_values us) vs u d' (rw (kept' k (omega arith) (none-some k), holds) refl) hold')))))
    where
      spent_nothing : (u : State) → spent (left_after es 0) u ≡ u
      spent_nothing u = rw (none_left symbols graphs number g rank there es) (spent_none u)

      grouped_inside : (o : Outcome Vals) (v : Val) → and_then o (λ vs u. and_then (run v vs u) (λ us. perform (deliver w us))) ≡ and_then (and_then o (run v)) (λ us. perform (deliver w us))
      grouped_inside o v = regroup o (run v) (λ us. perform (deliver w us))

      grouped : (o : Outcome Vals) → and_then o (λ us t. and_then (args call limit (around facts false false f) es t) (λ vs u. and_then (run (first_of_values us) vs u) (λ us. perform (deliver w us)))) ≡ and_then (and_then (and_then o (λ us. pure_run (first_of_values us))) (λ v t. and_then (args call limit (around facts false false f) es t) (run v))) (λ us. perform (deliver w us))
      grouped (Gives us t) = grouped_inside (args call limit (around facts false false f) es t) (first_of_values us)
      grouped (Leaves e t) = refl
      grouped (Fails y pl t) = refl
      grouped (NotYet t) = refl

  -- a function and operands, on none of which anything is asserted
  untested_all : (h : Force) (pl : Place) (es : Cores) (more k : ℕ) (ks : List ℕ) (p q : Spot) (n : ℕ) (d : Delivered) (s : State) → Unasserted g k → OperandsStandAt g facts rank false pl es [] None n more ks p q →
      test_operands g h d (k ∷ ks) (spent 0 s) ≡ Gave tt s
  unfolding test_operands test_all pure ◌>>=◌
  untested_all h pl es more k ks p q n d s free stands = rw (free, spent_none s) (untested symbols graphs number g rank there h pl es more ks facts p q n d s stands)

  funcall_unknown_does : (t w : Bool) (pl : Place) (e : Core) (es : Cores) (n : ℕ) (l : Passes) (low : ℕ) (p q : Spot) (to : Option ℕ) (k : ℕ) (ks : List ℕ) (r x : Spot) → Wherever false false e → All es → (known facts (cores_length es) e ≡ None) →
      IsFree g facts rank low k → StandsAt g facts rank false false e (n + 1) none low (Some k) p r → OperandsStandAt g facts rank false pl es [] None 0 (suc (rank k)) ks r x →
      Here g x (kind.Combination (operation.Funcall t) (k ∷ ks)) to pl 0 (through w l) → (q ≡ next x) → Form_does t w (Funcall pl e es) n l low to p q
  unfolding eval known_or funcall perform ◌>>=ʳ◌ box_before pure ◌>>=◌
  funcall_unknown_does t w pl e es n l low p q to k ks r x part parts unknown free stands others_stand (b, here) end f a ws s at force =
      visited (going (at_spot p a) ws s) low to q (next x) t w n l f a ws s (known_or (known facts (cores_length es) e) call (around facts t w f) (args call limit (around facts false false f) es) (first (eval call limit (around facts false false f) e) >>=ʳ (λ v. args call limit (around facts false false f) es >>=ʳ funcall call (around facts t w f) pl v))) end
      (rw unknown
      (function_then_operands pl e es (n + 1) low k ks p r x to w l f a ws s (funcall call (around facts t w f) pl) part parts free.0 stands others_stand at force
      (λ v vs u d holds hold. subst (Comes symbols graphs rank (going (having d (at_spot x a)) ws u) low to (next x) l (having d a) ws) (regroup (outcome (designated f pl v u)) (call_value call (around facts t w f) vs) (λ us. perform (deliver w us)))
      (node_calls low to x t w 0 l (k ∷ ks) f (having d a) ws u (kind.Combination (operation.Funcall t) (k ∷ ks)) b pl (designated f pl v u) (λ v. v) (λ v. vs)
      (free.0, from_operands symbols graphs number g rank there pl es [] None false low (suc (rank k)) ks facts r x 0 (omega (arith, free.0)) others_stand) at force here
      (rw (untested_all a.force pl es (suc (rank k)) k ks r x 0 d u free.1 others_stand, force, holds, hold) refl)))))

  -- continuations of lower ranks hold the same values
  kept_below : (ks : List ℕ) (more : ℕ) (d d' : Delivered) → AllBelow g facts rank ks more → Keeps rank more None d d' → first_values d' ks ≡ first_values d ks
  kept_below [] more d d' below kept = refl
  kept_below (k ∷ ks) more d d' (less, below) kept = rw (kept k less (none-some k), kept_below ks more d d' below kept) refl

  nested_after : {A B : Type 0} → (b : Activation) (ws : List Waiting) (r : Ended A) (m : A → Effect B) (follow : A → B → State → Machine) →
      after_effect b ws (λ v u. after_effect b ws (follow v) (m v u)) r ≡ after_effect b ws (λ (v : A × B). follow v.0 v.1) (and_then_effect r (λ v u. and_then_effect (m v u) (λ w. Gave (v, w))))
  nested_after {A} {B} b ws (Gave v u) m follow = inner (m v u)
    where
      inner : (r : Ended B) → after_effect b ws (follow v) r ≡ after_effect b ws (λ (v : A × B). follow v.0 v.1) (and_then_effect r (λ w. Gave (v, w)))
      inner (Gave w u) = refl
      inner (Left e u) = refl
      inner (Failed x p u) = refl
  nested_after b ws (Left e u) m follow = refl
  nested_after b ws (Failed x p u) m follow = refl

  pub apply_does : (t w : Bool) (pl : Place) (e : Core) (es : Cores) (n : ℕ) (l : Passes) (low : ℕ) (to : Option ℕ) (p q : Spot) → Wherever false false e → All es →
      StandsAt g facts rank t w (Apply pl e es) n l low to p q → Form_does t w (Apply pl e es) n l low to p q
  unfolding eval apply perform ◌>>=ʳ◌ box_before pure ◌>>=◌
  apply_does t w pl e es n l low to p q part parts (k, ks, r, x, free, stands, others_stand, (b, here), end) f a ws s at force =
      visited (going (at_spot p a) ws s) low to q (next x) t w n l f a ws s (first (eval call limit (around facts false false f) e) >>=ʳ (λ v. args call limit (around facts false false f) es >>=ʳ apply call (around facts t w f) pl v)) end
      (function_then_operands pl e es (n + 1) low k ks p r x to w l f a ws s (apply call (around facts t w f) pl) part parts free.0 stands others_stand at force
      (λ v vs u d holds hold. subst (Comes symbols graphs rank (going (having d (at_spot x a)) ws u) low to (next x) l (having d a) ws) (applied vs (designated f pl v u))
      (node_calls low to x t w 0 l (k ∷ ks) f (having d a) ws u (kind.Combination (operation.Apply t) (k ∷ ks)) b pl (and_then_effect (designated f pl v u) (λ h u. and_then_effect (spread f pl vs u) (λ us. Gave (h, us)))) (λ c. c.0) (λ c. c.1)
      (free.0, from_operands symbols graphs number g rank there pl es [] None false low (suc (rank k)) ks facts r x 0 (omega (arith, free.0)) others_stand) at force here
      (rw (untested_all a.force pl es (suc (rank k)) k ks r x 0 d u free.1 others_stand, force, holds, hold) (nested_after _ ws (designated f pl v u) (λ h. spread f pl vs) (λ h us. calls (node_for (kind.Combination (operation.Apply t) (k ∷ ks)) to b pl 0 (through w l)) t us h _ ws))))))
    where
      applied : (vs : Vals) (r : Ended Val) → and_then {A = Val × Vals} (outcome (and_then_effect r (λ h u. and_then_effect (spread f pl vs u) (λ us. Gave (h, us))))) (λ c u. and_then (call_value call (around facts t w f) c.1 c.0 u) (λ us. perform (deliver w us)))
          ≡ and_then (and_then (outcome r) (λ h u. and_then (outcome (spread f pl vs u)) (λ us. call_value call (around facts t w f) us h))) (λ us. perform (deliver w us))
      applied vs (Gave h u) = inner (spread f pl vs u)
        where
          inner : (r : Ended Vals) → and_then {A = Val × Vals} (outcome (and_then_effect r (λ us. Gave (h, us)))) (λ c u. and_then (call_value call (around facts t w f) c.1 c.0 u) (λ us. perform (deliver w us))) ≡ and_then (and_then (outcome r) (λ us. call_value call (around facts t w f) us h)) (λ us. perform (deliver w us))
          inner (Gave us u) = refl
          inner (Left e u) = refl
          inner (Failed x p u) = refl
      applied vs (Left e u) = refl
      applied vs (Failed y z u) = refl

  module _ (begins : facts.start ≡ first_function graphs number) where
    -- the values that a function closes over are those that the form captures
    closed_alike : (x : ℕ) (text : FunctionText) (u : State) → IsFunction g facts rank x text → captured_by_graph (closed_by g (g.function x)) u ≡ capture facts text u
    closed_alike x text u is = rw is.there (same_captured facts (closed_by g (Some is.function)) text u is.closed)

    -- a call of a function that the node names
    known_call_comes : (low : ℕ) (to : Option ℕ) (r : Spot) (t w : Bool) (l : Passes) (x k : ℕ) (ks : List ℕ) (text : FunctionText) (f : Force) (a : Activation) (ws : List Waiting) (u : State) (pl : Place) (closed vs : Vals) → From rank low (k ∷ ks) →
        a.graph ≡ number → a.force ≡ f → IsFunction g facts rank x text → Here g r (kind.Combination (operation.CallKnown x None t) (k ∷ ks)) to pl 0 (through w l) →
        a.delivered k ≡ Some closed → first_values a.delivered ks ≡ vs → test_operands g a.force a.delivered (k ∷ ks) (spent 0 u) ≡ Gave tt u →
        Comes symbols graphs rank (going (at_spot r a) ws u) low to (next r) l a ws (and_then (call (around facts t w f) (code_number facts text.lambda) closed vs u) (λ us. perform (deliver w us)))
    unfolding box_before pure ◌>>=◌
    known_call_comes low to r t w l x k ks text f a ws u pl closed vs from at force is (b, here) has hold tested =
        comes_after symbols graphs rank (going (at_spot r a) ws u) (calling t (code_number facts text.lambda) closed vs None (taking (k ∷ ks) (at_spot r a)) ws u) low to (next r) l a ws
        (and_then (call (around facts t w f) (code_number facts text.lambda) closed vs u) (λ us. perform (deliver w us))) (
          1,
          runs_there symbols graphs number g facts rank there r (node_for (kind.Combination (operation.CallKnown x None t) (k ∷ ks)) to b pl 0 (through w l)) a ws u at here
              ∙ rw (tested, is.there, is.lambda, has, hold, number_of_code facts text.lambda, begins) refl,
        )
        (call_comes symbols graphs rank low to r w 0 l (k ∷ ks) a ws (calling t (code_number facts text.lambda) closed vs None (taking (k ∷ ks) (at_spot r a)) ws u) (kind.Combination (operation.CallKnown x None t) (k ∷ ks)) b pl (call (around facts t w f) (code_number facts text.lambda) closed vs u) from
        (calls_do facts t w f (code_number facts text.lambda) closed vs (taking (k ∷ ks) (at_spot r a)) (node_for (kind.Combination (operation.CallKnown x None t) (k ∷ ks)) to b pl 0 (through w l)) ws u force (node_there symbols graphs number g rank there r _ (k ∷ ks) a at here)))

    pub call_local_does : (t w : Bool) (pl : Place) (i : ℕ) (es : Cores) (n : ℕ) (l : Passes) (low : ℕ) (to : Option ℕ) (p q : Spot) → All es →
        StandsAt g facts rank t w (CallLocal pl i es) n l low to p q → Form_does t w (CallLocal pl i es) n l low to p q
    unfolding eval ◌>>=ʳ◌ call_local perform leaf_values closed_values
    call_local_does t w pl i es n l low to p q parts (x, k, ks, r, (text, found, is), free, stands, below, ref, here, end) f a ws s at force =
        visited (going (at_spot p a) ws s) low to q (next (next r)) t w n l f a ws s (args call limit (around facts false false f) es >>=ʳ call_local call (around facts t w f) (lookup i facts.names.functions)) end
        (rw found
        (subst (Comes symbols graphs rank (going (at_spot p a) ws s) low to (next (next r)) l a ws) (regroup (args call limit (around facts false false f) es (spent (n + 1) s)) (call_local call (around facts t w f) (Some text)) (λ us. perform (deliver w us)))
        (operands_then symbols graphs number g rank there facts call limit false pl es [] None (n + 1) low low ks f a ws s p r (next (next r)) to l (λ vs u. and_then (call_local call (around facts t w f) (Some text) vs u) (λ us. perform (deliver w us))) (omega arith) parts stands at force
        (λ vs u d kept holds. subst (Comes symbols graphs rank (going (having d (at_spot r a)) ws u) low to (next (next r)) l (having d a) ws)
        (regroup (outcome (capture facts text (spent (left_after es (n + 1)) u))) (λ closed. call (around facts t w f) (code_number facts text.lambda) closed vs) (λ us. perform (deliver w us)))
        (leaf_then symbols graphs number g rank there facts call limit low (rank k) k r (next (next r)) (left_after es (n + 1)) pl (leaf.Closed x false) to l (having d a) ws u (capture facts text (spent (left_after es (n + 1)) u)) (λ closed v. and_then (call (around facts t w f) (code_number facts text.lambda) closed vs v) (λ us. perform (deliver w us))) at free.0 (omega arith) ref
        (closed_alike x text (spent (left_after es (n + 1)) u) is)
        (λ closed v d' kept' has. known_call_comes low to (next r) t w l x k ks text f (having d' a) ws v pl closed vs
        (free.0, from_operands symbols graphs number g rank there pl es [] None false low low ks facts p r (n + 1) (omega arith) stands) at force is here has
        (kept_below ks (rank k) d d' below kept' ∙ holds) (untested_all a.force pl es low k ks p r (n + 1) d' v free.1 stands)))))))

    -- what a call of a known function in place comes to when its function is there
    abbrev known_run : (t w : Bool) → Force → FunctionText → Cores → Vals → Run Vals
    known_run t w f text es closed = λ v. and_then (args call limit (around facts false false f) es v) (λ vs u. and_then (call (around facts t w f) (code_number facts text.lambda) closed vs u) (λ us. perform (deliver w us)))

    funcall_known_does : (t w : Bool) (pl : Place) (e : Core) (es : Cores) (n : ℕ) (l : Passes) (low : ℕ) (p q : Spot) (to : Option ℕ) (text : FunctionText) (x k : ℕ) (ks : List ℕ) (r : Spot) → All es → (known facts (cores_length es) e ≡ Some text) → IsFunction g facts rank x text →
        IsFree g facts rank low k → Here g p (kind.Ref (leaf.Closed x true)) (Some k) pl (n + 2) none → OperandsStandAt g facts rank false pl es [] None 0 (suc (rank k)) ks (next p) r →
        Here g r (kind.Combination (operation.CallKnown x None t) (k ∷ ks)) to pl 0 (through w l) → (q ≡ next r) → Form_does t w (Funcall pl e es) n l low to p q
    unfolding eval known_or ◌>>=ʳ◌ perform spend counting change allot pure ◌>>=◌ leaf_values closed_values
    funcall_known_does t w pl e es n l low p q to text x k ks r parts found is free ref stands here end f a ws s at force =
        visited (going (at_spot p a) ws s) low to q (next r) t w n l f a ws s (known_or (known facts (cores_length es) e) call (around facts t w f) (args call limit (around facts false false f) es) (first (eval call limit (around facts false false f) e) >>=ʳ (λ v. args call limit (around facts false false f) es >>=ʳ funcall call (around facts t w f) pl v))) end
        (rw (found, two_spent)
        (subst (Comes symbols graphs rank (going (at_spot p a) ws s) low to (next r) l a ws) (grouped (capture facts text (spent (n + 2) s)))
        (leaf_then symbols graphs number g rank there facts call limit low (rank k) k p (next r) (n + 2) pl (leaf.Closed x true) to l a ws s (and_then_effect (capture facts text (spent (n + 2) s)) allotted) (known_run t w f text es) at free.0 (omega arith) ref
        (rw (closed_alike x text (spent (n + 2) s) is) refl)
        (λ closed v d kept has.
        subst (λ (u : State). Comes symbols graphs rank (going (having d (at_spot (next p) a)) ws v) low to (next r) l (having d a) ws (known_run t w f text es closed u)) (spent_none v)
        (operands_then symbols graphs number g rank there facts call limit false pl es [] None 0 low (suc (rank k)) ks f (having d a) ws v (next p) r (next r) to l (λ vs u. and_then (call (around facts t w f) (code_number facts text.lambda) closed vs u) (λ us. perform (deliver w us))) (omega (arith, free.0)) parts stands at force
        (λ vs u d' kept' holds.
        subst (λ (t' : State). Comes symbols graphs rank (going (having d' (at_spot r a)) ws u) low to (next r) l (having d' a) ws (and_then (call (around facts t w f) (code_number facts text.lambda) closed vs t') (λ us. perform (deliver w us)))) (sym (spent_nothing u))
        (known_call_comes low to r t w l x k ks text f (having d' a) ws u pl closed vs
        (free.0, from_operands symbols graphs number g rank there pl es [] None false low (suc (rank k)) ks facts (next p) r 0 (omega (arith, free.0)) stands) at force is here
        (kept' k (omega arith) (none-some k) ∙ has) holds (untested_all a.force pl es (suc (rank k)) k ks (next p) r 0 d' u free.1 stands))))))))
      where
        allotted : Vals → Effect Vals
        allotted vs u = and_then_effect (allot (2 + length vs) u) (λ _. pure vs)

        two_spent : spent 1 (spent (n + 1) s) ≡ spent (n + 2) s
        two_spent = spent_both (n + 1) 1 s ∙ ap (λ (c : ℕ). spent c s) (omega arith)

        spent_nothing : (u : State) → spent (left_after es 0) u ≡ u
        spent_nothing u = rw (none_left symbols graphs number g rank there es) (spent_none u)

        grouped : (o : Ended Vals) → and_then (outcome (and_then_effect o allotted)) (known_run t w f text es)
            ≡ and_then (and_then (outcome o) (λ closed v. and_then (and_then (outcome (allot (2 + length closed) v)) (λ _. args call limit (around facts false false f) es)) (call (around facts t w f) (code_number facts text.lambda) closed))) (λ us. perform (deliver w us))
        grouped (Gave closed v) = regroup (and_then (outcome (allot (2 + length closed) v)) (λ _. args call limit (around facts false false f) es)) (call (around facts t w f) (code_number facts text.lambda) closed) (λ us. perform (deliver w us))
        grouped (Left y v) = refl
        grouped (Failed y z v) = refl

    pub funcall_does : (t w : Bool) (pl : Place) (e : Core) (es : Cores) (n : ℕ) (l : Passes) (low : ℕ) (to : Option ℕ) (p q : Spot) → Wherever false false e → All es →
        StandsAt g facts rank t w (Funcall pl e es) n l low to p q → Form_does t w (Funcall pl e es) n l low to p q
    funcall_does t w pl e es n l low to p q part parts (inl (text, x, k, ks, r, found, is, free, ref, stands, here, end)) =
        funcall_known_does t w pl e es n l low p q to text x k ks r parts found is free ref stands here end
    funcall_does t w pl e es n l low to p q part parts (inr (k, ks, r, x, unknown, free, stands, others_stand, here, end)) =
        funcall_unknown_does t w pl e es n l low p q to k ks r x part parts unknown free stands others_stand here end
