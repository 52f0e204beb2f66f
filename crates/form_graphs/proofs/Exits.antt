-- Exits do in their graphs what they do: GO, RETURN-FROM and THROW.
use Rattle.std.proofs.Common.{◌≡◌, ℕ, zero, suc, ◌+◌, ◌-◌, ◌≤◌, refl, sym, ap, subst, ◌∙◌, arith, Bool, true, false, if◌then◌else◌, List, [], ◌∷◌, Option, Some, None}
use Rattle.std.specs.Prelude.{slice_get, map}
use Rattle.lisp_base.specs.declared.values.SymId.{SymId}
use Rattle.lisp_base.specs.declared.values.Val.{Val}
use Rattle.lisp_base.specs.declared.values.Val.TheVariants.{Sym}
use Rattle.lisp_base.specs.declared.values.Place.{Place}
use Rattle.core_form.specs.Tree.{Core, ReturnFrom, Go, Throw}
use Rattle.core_form.specs.Facts.{Facts, TagText, lookup}
use Rattle.core_form.specs.State.{Symbol, Pair, Counts, State, Exit, Fault, Control, first_of_values}
use Rattle.core_form.specs.Effect.{Ended, Gave, Left, Failed, and_then as and_then_effect, ◌>>=◌, ◌>>◌, pure, change, counting, spend, read, leave, fail, allot, box_all, look_at, add}
use Rattle.core_form.specs.Force.{Vals, Force, Catch, in_force, make_list, signal, Signalled, Stops, Caught, stop_at, go_to_catch, after_signal, raise, tag_of_catch}
use Rattle.core_form.specs.Growth.{CountsGrow}
use Rattle.core_form.specs.Primitives.{or_nil}
use Rattle.core_form.specs.Step.{deliver, held, exit_to, return_from, go_on_at, go_to, find_catch, throw_to, throw}
use Rattle.core_form.specs.Run.{Outcome, Gives, Leaves, Fails, NotYet, Run, and_then, outcome, perform, visit, first, take_left, take_fuel, stop, ◌>>=◌ as ◌>>=ʳ◌, pure as pure_run}
use Rattle.core_form.specs.Eval.{Call, eval}
use Rattle.icr_graph.specs.declared.nodes.Node.{Node}
use Rattle.icr_graph.specs.declared.nodes.NodeKind.TheVariants as kind
use Rattle.icr_graph.specs.declared.nodes.Leaving.TheVariants as way
use Rattle.icr_graph.specs.declared.parts.Variable.{Variable}
use Rattle.icr_graph.specs.Plain.{FlowGraph}
use Rattle.graph_meaning.specs.Machine.{Delivered, without_all, Activation, taking, Waiting, Machine, going, after as after_effect}
use Rattle.graph_meaning.specs.Reading.{node_at, first_function}
use Rattle.graph_meaning.specs.Effects.{held_by, test_operands, test_all, box_before}
use Rattle.graph_meaning.specs.Extents.{spent, take_one, leave_extent, goes_on}
use Rattle.graph_meaning.specs.Running.{step, runs_node}
use Rattle.form_graphs.specs.Spots.{Spot, next, Passes, none, Here, Unasserted, Stands as VariableStands}
use Rattle.form_graphs.specs.Standing.{StandsAt, IsFree, LeavesExtent}
use Rattle.form_graphs.specs.Landing.{at_spot, having, Reaches, Keeps, Comes}
use Rattle.form_graphs.proofs.Coming.{From, one_step, stays, comes_after, comes_then, comes_having, keeps_all, keeps_fewer, passes_none, is_other, taken_keeps, spent_both, spent_none}
use Rattle.form_graphs.specs.Calling.{around}
use Rattle.form_graphs.proofs.Leaves.{runs_there, Does}

pub and_then_both : {A B C : Type 0} → (o : Outcome A) (f : A → Run B) (g : B → Run C) → and_then (and_then o f) g ≡ and_then o (λ x s. and_then (f x s) g)
and_then_both (Gives x s) f g = refl
and_then_both (Leaves e s) f g = refl
and_then_both (Fails x p s) f g = refl
and_then_both (NotYet s) f g = refl

-- what a variable of the graph holds is what that of the form holds
pub held_same : (facts : Facts) (variable : Variable) (x : ℕ) → VariableStands facts variable x → (s : State) → held_by variable s ≡ held facts x s
held_same facts variable x stands s = rw (stands.number, stands.cell) refl

-- ---- effects that give nothing

-- one of the fuel was taken
abbrev pub taken_one : State → State
taken_one s = record s { taken = suc s.taken }

-- an effect ends by an exit or an error, without fuel
abbrev pub Departs : ℕ → Ended Vals → Type 0
Departs n (Gave a s) = ⊥
Departs n (Left e s) = s.taken ≡ n
Departs n (Failed x p s) = s.taken ≡ n

-- an effect on a value takes no fuel
abbrev TakesNone : ℕ → Ended Val → Type 0
TakesNone n (Gave a s) = s.taken ≡ n
TakesNone n (Left e s) = s.taken ≡ n
TakesNone n (Failed x p s) = s.taken ≡ n

pub stop_departs : (x : Fault) (p : Place) (s : State) → Departs s.taken (stop_at x p s)
unfolding stop_at box_all allot counting change fail ◌>>=◌
stop_departs x p s = refl

list_takes : (vs : Vals) (s : State) → TakesNone s.taken (make_list vs s)
unfolding make_list box_all allot counting change add pure ◌>>=◌
list_takes [] s = refl
list_takes (v ∷ vs) s = more (make_list vs s) (list_takes vs s)
  where
    more : (r : Ended Val) → TakesNone s.taken r → TakesNone s.taken (and_then_effect r (λ rest. allot 2 >> box_all (v ∷ []) >> add (Pair v rest)))
    more (Gave a t) none_taken = none_taken
    more (Left e t) none_taken = none_taken
    more (Failed x p t) none_taken = none_taken

caught_departs : (x : Fault) (p : Place) (vs : Vals) (c : Option Catch) (s : State) → Departs s.taken (go_to_catch x p vs c s)
unfolding go_to_catch leave ◌>>=◌
caught_departs x p vs None s = stop_departs x p s
caught_departs x p vs (Some c) s = more (make_list vs s) (list_takes vs s)
  where
    more : (r : Ended Val) → TakesNone s.taken r → Departs s.taken (and_then_effect r (λ v. leave (record { entry = c.entry; tag = None; values = v ∷ [] })))
    more (Gave a t) none_taken = none_taken
    more (Left e t) none_taken = none_taken
    more (Failed y q t) none_taken = none_taken

signalled_departs : (f : Force) (x : Fault) (p : Place) (r : Signalled) (s : State) → Departs s.taken (after_signal f x p r s)
unfolding after_signal
signalled_departs f x p Stops s = stop_departs x p s
signalled_departs f x p (Caught at vs) s = caught_departs x p vs (slice_get f.catches at) s

-- an error
pub raise_departs : (f : Force) (x : Fault) (p : Place) (s : State) → Departs s.taken (raise f x p s)
unfolding raise read look_at counting change ◌>>=◌
raise_departs f x p s = signalled_departs f x p (signal s.store x p (map tag_of_catch f.catches)).1 _

-- an exit to an entry
pub exit_departs : (f : Force) (p : Place) (name : Val) (e : Exit) (s : State) → Departs s.taken (exit_to f p name e s)
unfolding exit_to leave box_all allot counting change ◌>>=◌
exit_departs f p name e s = by_force (in_force f e.entry)
  where
    by_force : (b : Bool) → Departs s.taken ((if b then box_all e.values >> leave e else raise f (Control name) p) s)
    by_force true = refl
    by_force false = raise_departs f (Control name) p s

-- an exit to a tag of a CATCH
pub throw_departs : (f : Force) (p : Place) (v : Val) (vs : Vals) (s : State) → Departs s.taken (throw f p v vs s)
unfolding throw throw_to leave box_all allot look_at counting change ◌>>=◌
throw_departs f p v vs s = by_catch ((find_catch v f.catches 0).1)
  where
    by_catch : (c : Option Catch) → Departs s.taken ((look_at ((find_catch v f.catches 0).0) >> throw_to f p v vs c) s)
    by_catch None = raise_departs f (Control v) p _
    by_catch (Some c) = refl

-- the state to which a machine comes has taken so much
departs_taken : (a : Activation) (ws : List Waiting) (more : Vals → State → Machine) (n : ℕ) (r : Ended Vals) → Departs n r → (after_effect a ws more r).state.taken ≡ n
departs_taken a ws more n (Gave vs s) departs = elim departs [ ]
departs_taken a ws more n (Left e s) departs = departs
departs_taken a ws more n (Failed x p s) departs = departs

spent_grows : (n : ℕ) (c : Counts) → CountsGrow c (record c { cost = c.cost + n })
spent_grows n c = record {
  cost = omega arith;
  heap_words = omega arith;
  boxes = omega arith;
  boxes_outside_words = omega arith;
  stack_words = omega arith;
  held = omega arith;
  begun = omega arith;
  extra = omega arith;
  looked = omega arith;
  walked = omega arith;
}

-- ---- parts

module _ (symbols : List Symbol) (graphs : List FlowGraph) (rank : ℕ → ℕ) where
  -- A part with ranks from a higher one on, whose values go to a continuation of its own, and then what follows with them.
  pub comes_then_above : (m : Machine) (low more j : ℕ) (r q : Spot) (to : Option ℕ) (l : Passes) (a : Activation) (ws : List Waiting) (o : Outcome Vals) (next : Vals → Run Vals) →
      low ≤ more → more ≤ rank j → Comes symbols graphs rank m more (Some j) r none a ws o →
      ((vs : Vals) (s : State) (d : Delivered) → Keeps rank more (Some j) a.delivered d → d j ≡ Some vs → Comes symbols graphs rank (going (having d (at_spot r a)) ws s) low to q l (having d a) ws (next vs s)) →
      Comes symbols graphs rank m low to q l a ws (and_then o next)
  comes_then_above m low more j r q to l a ws (Gives vs s) next le above (d, kept, holds, way) follows =
      comes_having symbols graphs rank m low low to q l a d ws (next vs s) (omega arith) (keeps_fewer rank low more to a.delivered d le (keeps_all rank more j to a.delivered d above kept))
      (comes_after symbols graphs rank m (going (having d (at_spot r a)) ws s) low to q l (having d a) ws (next vs s) (subst (λ (t : State). Reaches symbols graphs m (going (having d (at_spot r a)) ws t)) (passes_none vs s) way) (follows vs s d kept holds))
  comes_then_above m low more j r q to l a ws (Leaves e s) next le above (d, p, f, kept, way) follows = (d, p, f, keeps_fewer rank low more to a.delivered d le (keeps_all rank more j to a.delivered d above kept), way)
  comes_then_above m low more j r q to l a ws (Fails x p s) next le above came follows = came
  comes_then_above m low more j r q to l a ws (NotYet s) next le above came follows = came

-- ---- nodes of exits

module _ (symbols : List Symbol) (graphs : List FlowGraph) (number : ℕ) (g : FlowGraph) (facts : Facts) (rank : ℕ → ℕ) (there : slice_get graphs number ≡ Some g) where
  -- a node has taken its operands, and departs
  pub departs_comes : (low : ℕ) (to : Option ℕ) (p q : Spot) (l : Passes) (ks : List ℕ) (a : Activation) (ws : List Waiting) (n : ℕ) (r : Ended Vals) (more : Vals → Run Vals) → From rank low ks → Departs n r →
      Comes symbols graphs rank (after_effect (taking ks (at_spot p a)) ws (goes_on (taking ks (at_spot p a)) ws) r) low to q l a ws (and_then (outcome r) more)
  departs_comes low to p q l ks a ws n (Gave vs s) more from departs = elim departs [ ]
  departs_comes low to p q l ks a ws n (Left e s) more from departs =
      (without_all ks a.delivered, p, a.force, taken_keeps rank low to ks a.delivered from, stays symbols graphs _)
  departs_comes low to p q l ks a ws n (Failed x pl s) more from departs = (taking ks (at_spot p a), ws, stays symbols graphs _)

  -- a node that departs when it has taken its operands
  pub node_departs : (low : ℕ) (to : Option ℕ) (p q : Spot) (l : Passes) (ks : List ℕ) (a : Activation) (ws : List Waiting) (s : State) (nd : Node) (n : ℕ) (r : Ended Vals) (more : Vals → Run Vals) → a.graph ≡ number → From rank low ks → Departs n r →
      node_at g p.block p.index ≡ Some nd →
      runs_node g (first_function graphs number) nd (at_spot p a) ws s ≡ after_effect (taking ks (at_spot p a)) ws (goes_on (taking ks (at_spot p a)) ws) r →
      Comes symbols graphs rank (going (at_spot p a) ws s) low to q l a ws (and_then (outcome r) more)
  node_departs low to p q l ks a ws s nd n r more at from departs here does =
      comes_after symbols graphs rank (going (at_spot p a) ws s) (step symbols graphs (going (at_spot p a) ws s)) low to q l a ws
      (and_then (outcome r) more)
      (one_step symbols graphs (going (at_spot p a) ws s))
      (rw (runs_there symbols graphs number g facts rank there p nd a ws s at here, does) (departs_comes low to p q l ks a ws n r more from departs))

  -- a RETURN-FROM whose values are there
  return_from_departs : (pl : Place) (b : ℕ) (low : ℕ) (to : Option ℕ) (q r : Spot) (l : Passes) (f : Force) (j : ℕ) (entry : Option ℕ) (name : SymId) (a : Activation) (ws : List Waiting) (s : State) (vs : Vals) (more : Vals → Run Vals) →
      a.graph ≡ number → a.force ≡ f → low ≤ rank j → Unasserted g j → LeavesExtent g facts rank entry b → lookup b facts.blocks ≡ Some (Sym name) → a.delivered j ≡ Some vs →
      Here g r (kind.Exit (way.ReturnFrom name j) entry) None pl 0 none →
      Comes symbols graphs rank (going (at_spot r a) ws s) low to q l a ws (and_then (outcome (return_from facts f pl b vs s)) more)
  unfolding return_from leave_extent box_before test_operands test_all read pure ◌>>=◌
  return_from_departs pl b low to q r l f j entry name a ws s vs more at force from free (variable, left, stands) named holds (block, here) =
      node_departs low to r q l (j ∷ []) a ws s _ s.taken (return_from facts f pl b vs s) more at (from, tt)
      (exit_departs f pl (or_nil (lookup b facts.blocks)) _ s) here (rw (free, holds, left, named, force, held_same facts variable b stands (spent 0 s), spent_none s) refl)

  -- a THROW whose tag and values are there
  throw_departs_there : (pl : Place) (low : ℕ) (to : Option ℕ) (q r : Spot) (l : Passes) (f : Force) (j k : ℕ) (entry : Option ℕ) (a : Activation) (ws : List Waiting) (s : State) (us vs : Vals) (more : Vals → Run Vals) →
      a.graph ≡ number → a.force ≡ f → low ≤ rank j → low ≤ rank k → Unasserted g j → Unasserted g k → a.delivered j ≡ Some us → a.delivered k ≡ Some vs →
      Here g r (kind.Exit (way.Throw j k) entry) None pl 0 none →
      Comes symbols graphs rank (going (at_spot r a) ws s) low to q l a ws (and_then (outcome (throw f pl (first_of_values us) vs s)) more)
  unfolding box_before test_operands test_all pure ◌>>=◌
  throw_departs_there pl low to q r l f j k entry a ws s us vs more at force from from' free free' holds holds' (block, here) =
      node_departs low to r q l (j ∷ k ∷ []) a ws s _ s.taken (throw f pl (first_of_values us) vs s) more at (from, (from', tt))
      (throw_departs f pl (first_of_values us) vs s) here (rw (free, free', holds, holds', force, spent_none s) refl)

  -- what a GO does with its step
  go_runs : (pl : Place) (u : ℕ) (text : TagText) (n : ℕ) (p : Spot) (f : Force) (entry : Option ℕ) (a : Activation) (ws : List Waiting) (s : State) →
      a.graph ≡ number → a.force ≡ f → lookup u facts.names.tags ≡ Some text → LeavesExtent g facts rank entry text.tagbody →
      Here g p (kind.Exit (way.Go u text.name) entry) None pl n none →
      step symbols graphs (going (at_spot p a) ws s) ≡ after_effect (at_spot p a) ws (goes_on (at_spot p a) ws) (go_to facts f pl u (taken_one (spent n s)))
  unfolding go_to go_on_at leave_extent take_one box_before test_operands test_all read change pure ◌>>=◌
  go_runs pl u text n p f entry a ws s at force named (variable, left, stands) (block, here) =
      runs_there symbols graphs number g facts rank there p _ a ws s at here ∙ rw (left, force, named, held_same facts variable text.tagbody stands (taken_one (spent n s))) refl

  go_to_departs : (pl : Place) (u : ℕ) (text : TagText) (f : Force) (s : State) → lookup u facts.names.tags ≡ Some text → Departs s.taken (go_to facts f pl u s)
  unfolding go_to go_on_at read ◌>>=◌
  go_to_departs pl u text f s named = rw named (exit_departs f pl text.name _ s)

  module _ (call : Call) (limit : ℕ) where
    pub return_from_does : (t w : Bool) (pl : Place) (b : ℕ) (e : Core) (n : ℕ) (l : Passes) (low : ℕ) (to : Option ℕ) (p q : Spot) →
        ((j : ℕ) (r : Spot) → StandsAt g facts rank false false e (n + 1) none low (Some j) p r → Does symbols graphs number g facts rank there call limit false false e (n + 1) none low (Some j) p r) →
        StandsAt g facts rank t w (ReturnFrom pl b e) n l low to p q → Does symbols graphs number g facts rank there call limit t w (ReturnFrom pl b e) n l low to p q
    unfolding eval visit perform spend counting change ◌>>=ʳ◌
    return_from_does t w pl b e n l low to p q part (j, r, entry, name, free, leaves, named, stands, here) f a ws s at force =
        subst (Comes symbols graphs rank (going (at_spot p a) ws s) low to q l a ws) (sym (and_then_both (eval call limit (around facts false false f) e (spent 1 (spent n s))) _ _))
        (comes_then symbols graphs rank (going (at_spot p a) ws s) low j r q to l a ws (eval call limit (around facts false false f) e (spent 1 (spent n s))) _ free.0
        (subst (λ (u : State). Comes symbols graphs rank (going (at_spot p a) ws s) low (Some j) r none a ws (eval call limit (around facts false false f) e u)) (sym (spent_both n 1 s)) (part j r stands f a ws s at force))
        (λ vs s1 d kept holds. return_from_departs pl b low to q r l f j entry name (having d a) ws s1 vs _ at force free.0 free.1 leaves named holds here))

    -- the second part of a THROW, and its node
    throw_second : (pl : Place) (c : Core) (l : Passes) (low : ℕ) (to : Option ℕ) (q r x : Spot) (f : Force) (j k : ℕ) (entry : Option ℕ) (a : Activation) (ws : List Waiting) (s : State) (us : Vals) (more : Vals → Run Vals) →
        (StandsAt g facts rank false false c 0 none (suc (rank j)) (Some k) r x → Does symbols graphs number g facts rank there call limit false false c 0 none (suc (rank j)) (Some k) r x) →
        a.graph ≡ number → a.force ≡ f → IsFree g facts rank low j → IsFree g facts rank (suc (rank j)) k → a.delivered j ≡ Some us →
        StandsAt g facts rank false false c 0 none (suc (rank j)) (Some k) r x → Here g x (kind.Exit (way.Throw j k) entry) None pl 0 none →
        Comes symbols graphs rank (going (at_spot r a) ws s) low to q l a ws (and_then (eval call limit (around facts false false f) c s) (λ vs t. and_then (outcome (throw f pl (first_of_values us) vs t)) more))
    throw_second pl c l low to q r x f j k entry a ws s us more part at force free free' holds stands here =
        comes_then_above symbols graphs rank (going (at_spot r a) ws s) low (suc (rank j)) k x q to l a ws (eval call limit (around facts false false f) c s) _ (omega (arith, free.0)) free'.0
        (subst (λ (u : State). Comes symbols graphs rank (going (at_spot r a) ws s) (suc (rank j)) (Some k) x none a ws (eval call limit (around facts false false f) c u)) (spent_none s) (part stands f a ws s at force))
        (λ vs s1 d kept holds'. throw_departs_there pl low to q x l f j k entry (having d a) ws s1 us vs more at force free.0 (omega (arith, free.0, free'.0)) free.1 free'.1
        (kept j (omega arith) (is_other rank (suc (rank j)) j k (omega arith) free'.0) ∙ holds) holds' here)

    pub throw_does : (t w : Bool) (pl : Place) (e c : Core) (n : ℕ) (l : Passes) (low : ℕ) (to : Option ℕ) (p q : Spot) →
        ((j : ℕ) (r : Spot) → StandsAt g facts rank false false e (n + 1) none low (Some j) p r → Does symbols graphs number g facts rank there call limit false false e (n + 1) none low (Some j) p r) →
        ((more k : ℕ) (r x : Spot) → StandsAt g facts rank false false c 0 none more (Some k) r x → Does symbols graphs number g facts rank there call limit false false c 0 none more (Some k) r x) →
        StandsAt g facts rank t w (Throw pl e c) n l low to p q → Does symbols graphs number g facts rank there call limit t w (Throw pl e c) n l low to p q
    unfolding eval visit first perform spend counting change ◌>>=ʳ◌ pure_run
    throw_does t w pl e c n l low to p q first_part second_part (j, k, r, x, entry, free, free', stands, stands', here) f a ws s at force =
        subst (Comes symbols graphs rank (going (at_spot p a) ws s) low to q l a ws) (regroup (eval call limit (around facts false false f) e (spent 1 (spent n s))))
        (comes_then symbols graphs rank (going (at_spot p a) ws s) low j r q to l a ws (eval call limit (around facts false false f) e (spent 1 (spent n s))) _ free.0
        (subst (λ (u : State). Comes symbols graphs rank (going (at_spot p a) ws s) low (Some j) r none a ws (eval call limit (around facts false false f) e u)) (sym (spent_both n 1 s)) (first_part j r stands f a ws s at force))
        (λ us s1 d kept holds. throw_second pl c l low to q r x f j k entry (having d a) ws s1 us _ (second_part (suc (rank j)) k r x) at force free free' holds stands' here))
      where
        regroup : (o : Outcome Vals) → and_then o (λ us s. and_then (eval call limit (around facts false false f) c s) (λ vs t. and_then (outcome (throw f pl (first_of_values us) vs t)) (λ zs. perform (deliver w zs)))) ≡ and_then (and_then (and_then o (λ us. pure_run (first_of_values us))) (λ v s. and_then (eval call limit (around facts false false f) c s) (λ vs. perform (throw f pl v vs)))) (λ zs. perform (deliver w zs))
        regroup (Gives us s) = sym (and_then_both (eval call limit (around facts false false f) c s) _ _)
        regroup (Leaves e s) = refl
        regroup (Fails x pl s) = refl
        regroup (NotYet s) = refl

    -- a GO with the fuel that is left
    go_left : (pl : Place) (u : ℕ) (text : TagText) (n low : ℕ) (to : Option ℕ) (p q : Spot) (l : Passes) (f : Force) (entry : Option ℕ) (a : Activation) (ws : List Waiting) (s : State) (more : Vals → Run Vals) (left : ℕ) →
        a.graph ≡ number → a.force ≡ f → lookup u facts.names.tags ≡ Some text → LeavesExtent g facts rank entry text.tagbody →
        Here g p (kind.Exit (way.Go u text.name) entry) None pl n none →
        Comes symbols graphs rank (going (at_spot p a) ws s) low to q l a ws (and_then (and_then (take_left left (spent n s)) (λ _. perform (go_to facts f pl u))) more)
    unfolding take_left stop perform
    go_left pl u text n low to p q l f entry a ws s more zero at force named leaves here = (
      going (at_spot p a) ws s,
      stays symbols graphs _,
      record {
        output = refl;
        taken = refl;
        counts = spent_grows n s.counts;
        next = ap (λ (m : Machine). m.state.taken) (go_runs pl u text n p f entry a ws s at force named leaves here) ∙ departs_taken (at_spot p a) ws (goes_on (at_spot p a) ws) _ (go_to facts f pl u (taken_one (spent n s))) (go_to_departs pl u text f _ named);
      },
    )
    go_left pl u text n low to p q l f entry a ws s more (suc left) at force named leaves here =
        comes_after symbols graphs rank (going (at_spot p a) ws s) (step symbols graphs (going (at_spot p a) ws s)) low to q l a ws
        (and_then (outcome (go_to facts f pl u (taken_one (spent n s)))) more)
        (one_step symbols graphs (going (at_spot p a) ws s))
        (rw (go_runs pl u text n p f entry a ws s at force named leaves here) (departs_comes low to p q l [] a ws _ (go_to facts f pl u (taken_one (spent n s))) more tt (go_to_departs pl u text f _ named)))

    pub go_does : (t w : Bool) (pl : Place) (u n : ℕ) (l : Passes) (low : ℕ) (to : Option ℕ) (p q : Spot) →
        StandsAt g facts rank t w (Go pl u) n l low to p q → Does symbols graphs number g facts rank there call limit t w (Go pl u) n l low to p q
    unfolding eval visit perform spend counting change ◌>>=ʳ◌ take_fuel
    go_does t w pl u n l low to p q (text, entry, named, leaves, here) f a ws s at force =
        subst (λ (v : State). Comes symbols graphs rank (going (at_spot p a) ws s) low to q l a ws (and_then (and_then (take_left (limit - v.taken) v) (λ _. perform (go_to facts f pl u))) (λ us. perform (deliver w us)))) (sym (spent_both n 1 s))
        (go_left pl u text (n + 1) low to p q l f entry a ws s (λ us. perform (deliver w us)) (limit - s.taken) at force named leaves here)
