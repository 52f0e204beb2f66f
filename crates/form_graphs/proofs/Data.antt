-- Forms that read and give variables and functions, tests, and forms one after another do in their graphs what they do.
use Rattle.std.proofs.Common.{◌≡◌, ℕ, ◌+◌, ◌≤◌, refl, sym, ap, subst, arith, Bool, true, false, if◌then◌else◌, List, [], ◌∷◌, Option, Some, None}
use Rattle.std.specs.Prelude.{slice_get, map, filter, not}
use Rattle.lisp_base.specs.declared.values.SymId.{SymId}
use Rattle.lisp_base.specs.declared.values.Val.{Val}
use Rattle.lisp_base.specs.declared.values.Place.{Place}
use Rattle.core_form.specs.Tree.{Core, Local, SetLocal, FunLocal, FunGlobal, SetFun, Is, If, Function, Lambda, lambda}
use Rattle.core_form.specs.Facts.{FunctionText, Facts, has_number, lookup, without, closed_of}
use Rattle.lisp_base.specs.Spec.{Spec, spec_size}
use Rattle.core_form.specs.State.{Symbol, State, first_of_values, all_big}
use Rattle.core_form.specs.Effect.{Effect, Gave, and_then as and_then_effect, ◌>>=◌, pure, change, read, counting, spend, boxes_more, deliver_more}
use Rattle.core_form.specs.Force.{Vals, Force, is_true, one, holds}
use Rattle.core_form.specs.Primitives.{global_function, truth_of}
use Rattle.core_form.specs.Step.{Around, deliver, held, in_frame_of, set_function, set_variable, box_in, capture, make_function, make_local, code_number}
use Rattle.core_form.specs.Run.{Outcome, Gives, Leaves, Fails, NotYet, Run, and_then, perform, visit, first, ◌>>=◌ as ◌>>=ʳ◌, pure as pure_run}
use Rattle.core_form.specs.Eval.{Call, eval}
use Rattle.icr_graph.specs.declared.nodes.Node.{Node}
use Rattle.icr_graph.specs.declared.nodes.NodeKind.TheVariants as kind
use Rattle.icr_graph.specs.declared.nodes.Leaf.TheVariants as leaf
use Rattle.icr_graph.specs.declared.parts.Variable.{Variable}
use Rattle.icr_graph.specs.Plain.{FlowGraph}
use Rattle.graph_meaning.specs.Machine.{Delivered, without_all, Activation, advanced, holding, taking, Waiting, Machine, going, after as after_effect}
use Rattle.graph_meaning.specs.Reading.{node_at, first_function, closed_by, lambda_of}
use Rattle.graph_meaning.specs.Effects.{delivered_by, test_operands, test_all, box_before, leaf_values, operate, held_by, box_for, assign, frame_values, captured, new_function, is_source_variable}
use Rattle.graph_meaning.specs.Extents.{spent}
use Rattle.graph_meaning.specs.Running.{step, runs_node}
use Rattle.form_graphs.specs.Spots.{Spot, next, Passes, none, through, Unasserted, Stands, Ends, Forks, first_of}
use Rattle.form_graphs.specs.Standing.{StandsAt, AllStand, IsFunction, lambda_number}
use Rattle.form_graphs.specs.Landing.{at_spot, having, passed_on, Reaches, Keeps, Comes}
use Rattle.form_graphs.proofs.Coming.{reaches_then, one_step, comes_after, comes_having, comes_then, taken_keeps, passes_through, spent_both, spent_none}
use Rattle.form_graphs.specs.Calling.{around}
use Rattle.form_graphs.proofs.Leaves.{leaf_does, one_part, node_gives, Does}

-- what a variable of the graph holds is what that of the form holds
pub same_held : (facts : Facts) (variable : Variable) (x : ℕ) (s : State) → Stands facts variable x → held_by variable s ≡ held facts x s
same_held facts variable x s stands = rw (stands.cell, stands.number) refl

-- variables of a graph that stand for those of a form hold the same
pub same_frame_values : (facts : Facts) (xs : List Variable) (ns : List ℕ) (s : State) → AllStand facts xs ns → frame_values xs s ≡ map (λ (x : ℕ). in_frame_of x s) ns
same_frame_values facts [] [] s stand = refl
same_frame_values facts [] (n ∷ ns) s stand = absurd stand
same_frame_values facts (x ∷ xs) [] s stand = absurd stand
same_frame_values facts (x ∷ xs) (n ∷ ns) s (stands, stand) = rw (stands.number, same_frame_values facts xs ns s stand) refl

-- one variable more, or a block or tagbody
one_source_value : (facts : Facts) (x : Variable) (xs : List Variable) (n : ℕ) (ns : List ℕ) (s : State) → Stands facts x n →
    map (λ (y : Variable). held_by y s) (filter is_source_variable xs) ≡ map (λ (y : ℕ). held facts y s) (without ns facts.extents) → (b : Bool) →
    map (λ (y : Variable). held_by y s) (if not b then x ∷ filter is_source_variable xs else filter is_source_variable xs) ≡ map (λ (y : ℕ). held facts y s) (if not b then n ∷ without ns facts.extents else without ns facts.extents)
one_source_value facts x xs n ns s stands same true = same
one_source_value facts x xs n ns s stands same false = rw (same_held facts x n s stands, same) refl

-- so do those that are variables of the source
same_source_values : (facts : Facts) (xs : List Variable) (ns : List ℕ) (s : State) → AllStand facts xs ns →
    map (λ (x : Variable). held_by x s) (filter is_source_variable xs) ≡ map (λ (x : ℕ). held facts x s) (without ns facts.extents)
same_source_values facts [] [] s stand = refl
same_source_values facts [] (n ∷ ns) s stand = absurd stand
same_source_values facts (x ∷ xs) [] s stand = absurd stand
same_source_values facts (x ∷ xs) (n ∷ ns) s (stands, stand) = rw stands.extent (one_source_value facts x xs n ns s stands (same_source_values facts xs ns s stand) (has_number n facts.extents))

-- what a function closes over is captured alike
pub same_captured : (facts : Facts) (xs : List Variable) (text : FunctionText) (s : State) → AllStand facts xs (closed_of facts text) → captured xs s ≡ capture facts text s
unfolding captured capture ◌>>=◌ read boxes_more counting change
same_captured facts xs text s stand =
    rw (ap all_big (same_source_values facts xs (closed_of facts text) s stand), same_frame_values facts xs (closed_of facts text) s stand) refl

-- the number of a function among all
number_of_code : (facts : Facts) (k : Lambda) → code_number facts k ≡ facts.start + lambda_number k
number_of_code facts (lambda k xs os r e) = refl

-- a new function is that of its text
pub same_function : (g : FlowGraph) (facts : Facts) (rank : ℕ → ℕ) (start f : ℕ) (text : FunctionText) (s : State) → facts.start ≡ start → IsFunction g facts rank f text →
    new_function start (lambda_of (g.function f)) (closed_by g (g.function f)) s ≡ make_function facts text s
unfolding new_function make_function ◌>>=◌
same_function g facts rank start f text s begins is =
    rw (is.there, is.lambda, same_captured facts (closed_by g (Some is.function)) text s is.closed, number_of_code facts text.lambda, begins) refl

module _ (symbols : List Symbol) (graphs : List FlowGraph) (number : ℕ) (g : FlowGraph) (facts : Facts) (rank : ℕ → ℕ) (there : slice_get graphs number ≡ Some g) (call : Call) (limit : ℕ) where
  -- a variable
  pub local_does : (t w : Bool) (pl : Place) (x : ℕ) (n : ℕ) (l : Passes) (low : ℕ) (to : Option ℕ) (p q : Spot) → StandsAt g facts rank t w (Local pl x) n l low to p q →
      Does symbols graphs number g facts rank there call limit t w (Local pl x) n l low to p q
  unfolding eval leaf_values one read ◌>>=◌ ◌>>=ʳ◌ pure perform
  local_does t w pl x n l low to p q (v, (variable, has, stands), here, end) f a ws s at force =
      leaf_does symbols graphs number g facts rank there low to p q t w n pl l (leaf.Variable v) f a ws s (read (held facts x) >>= one) at here end
      (λ u. rw has (ap (λ (y : Val). Gave (y ∷ []) u) (same_held facts variable x u stands)))

  -- the function of a symbol
  pub fun_global_does : (t w : Bool) (pl : Place) (x : SymId) (n : ℕ) (l : Passes) (low : ℕ) (to : Option ℕ) (p q : Spot) → StandsAt g facts rank t w (FunGlobal pl x) n l low to p q →
      Does symbols graphs number g facts rank there call limit t w (FunGlobal pl x) n l low to p q
  unfolding eval leaf_values
  fun_global_does t w pl x n l low to p q (here, end) f a ws s at force =
      leaf_does symbols graphs number g facts rank there low to p q t w n pl l (leaf.GlobalFunction x) f a ws s (global_function f pl x) at here end (λ u. ap (λ (h : Force). global_function h pl x u) force)

  -- A form of one part, then a node that takes its values and gives what an effect of the first gives.
  pub part_then_node : (low j : ℕ) (p r q : Spot) (to : Option ℕ) (t w : Bool) (n c : ℕ) (l : Passes) (cx : Around) (e : Core) (f : Force) (a : Activation) (ws : List Waiting) (s : State) (eff : Val → Effect Vals) (nd : Node) →
      a.graph ≡ number → low ≤ rank j →
      Comes symbols graphs rank (going (at_spot p a) ws s) low (Some j) r none a ws (eval call limit cx e (spent (n + 1) s)) →
      node_at g r.block r.index ≡ Some nd → q ≡ next r →
      ((vs : Vals) (u : State) (d : Delivered) → d j ≡ Some vs →
      runs_node g (first_function graphs number) nd (at_spot r (having d a)) ws u ≡ after_effect (taking (j ∷ []) (at_spot r (having d a))) ws (λ us. going (advanced (holding to us (taking (j ∷ []) (at_spot r (having d a))))) ws) (and_then_effect (eff (first_of_values vs) u) (delivered_by (record { cost = c; levels = (through w l).levels; boxing = (through w l).boxing })))) →
      Comes symbols graphs rank (going (at_spot p a) ws s) low to q l a ws (visit (around facts t w f) (first (eval call limit cx e) >>=ʳ (λ v. perform (eff v))) (spent n s))
  unfolding visit first perform spend counting change ◌>>=ʳ◌
  part_then_node low j p r q to t w n c l cx e f a ws s eff nd at more came here end does =
      subst (λ (y : Spot). Comes symbols graphs rank (going (at_spot p a) ws s) low to y l a ws (and_then (and_then (and_then (eval call limit cx e (spent 1 (spent n s))) (λ vs. pure_run (first_of_values vs))) (λ v. perform (eff v))) (λ us. perform (deliver w us)))) (sym end)
      (one_part symbols graphs number g facts rank there call limit (going (at_spot p a) ws s) low j r (next r) to w l a ws (eval call limit cx e (spent 1 (spent n s))) eff more
      (subst (λ (u : State). Comes symbols graphs rank (going (at_spot p a) ws s) low (Some j) r none a ws (eval call limit cx e u)) (sym (spent_both n 1 s)) came)
      (λ vs u d kept holds. node_gives symbols graphs number g facts rank there call limit low to r w c l (j ∷ []) (having d a) ws u nd (eff (first_of_values vs) u) at (more, tt) here (does vs u d holds)))

  -- a function given to a symbol
  pub set_fun_does : (t w : Bool) (pl : Place) (x : SymId) (e : Core) (n : ℕ) (l : Passes) (low : ℕ) (to : Option ℕ) (p q : Spot) →
      ((j : ℕ) (r : Spot) → StandsAt g facts rank false false e (n + 1) none low (Some j) p r → Does symbols graphs number g facts rank there call limit false false e (n + 1) none low (Some j) p r) →
      StandsAt g facts rank t w (SetFun pl x e) n l low to p q → Does symbols graphs number g facts rank there call limit t w (SetFun pl x e) n l low to p q
  unfolding eval box_before test_operands test_all operate pure ◌>>=◌
  set_fun_does t w pl x e n l low to p q part (j, r, free, stands, (b, here), end) f a ws s at force =
      part_then_node low j p r q to t w n 0 l (around facts false false f) e f a ws s (set_function x) _ at free.0 (part j r stands f a ws s at force) here end
      (λ vs u d holds. rw (free.1, holds, spent_none u) refl)

  -- a value given to a variable
  pub set_local_does : (t w : Bool) (pl : Place) (x : ℕ) (e : Core) (n : ℕ) (l : Passes) (low : ℕ) (to : Option ℕ) (p q : Spot) →
      ((j : ℕ) (r : Spot) → StandsAt g facts rank false (has_number x facts.words) e (n + 1) none low (Some j) p r → Does symbols graphs number g facts rank there call limit false (has_number x facts.words) e (n + 1) none low (Some j) p r) →
      StandsAt g facts rank t w (SetLocal pl x e) n l low to p q → Does symbols graphs number g facts rank there call limit t w (SetLocal pl x e) n l low to p q
  unfolding eval box_before test_operands test_all pure ◌>>=◌ set_variable box_in assign box_for
  set_local_does t w pl x e n l low to p q part (v, j, r, (variable, has, variable_stands), free, stands, (b, here), end) f a ws s at force =
      part_then_node low j p r q to t w n 0 l (around facts false (has_number x facts.words) f) e f a ws s (set_variable facts x) _ at free.0 (part j r stands f a ws s at force) here end
      (λ vs u d holds. rw (free.1, holds, spent_none u, has, variable_stands.word, variable_stands.cell, variable_stands.number) refl)

  -- a test of a type
  pub is_does : (t w : Bool) (pl : Place) (type : Spec) (e : Core) (n : ℕ) (l : Passes) (low : ℕ) (to : Option ℕ) (p q : Spot) →
      ((j : ℕ) (r : Spot) → StandsAt g facts rank false false e (n + 1) none low (Some j) p r → Does symbols graphs number g facts rank there call limit false false e (n + 1) none low (Some j) p r) →
      StandsAt g facts rank t w (Is pl type e) n l low to p q → Does symbols graphs number g facts rank there call limit t w (Is pl type e) n l low to p q
  unfolding eval box_before test_operands test_all operate pure ◌>>=◌ ◌>>=ʳ◌ read spend counting change perform one
  is_does t w pl type e n l low to p q part (written, j, r, same, free, stands, (b, here), end) f a ws s at force =
      part_then_node low j p r q to t w n (spec_size type) l (around facts false false f) e f a ws s (λ v u. Gave (truth_of (holds f type v (spent (spec_size type) u)) ∷ []) (spent (spec_size type) u)) _ at free.0 (part j r stands f a ws s at force) here end
      (λ vs u d holds. rw (free.1, holds, same, force) refl)

  -- what has passed a form more has been delivered by it
  pub delivers : (m : Machine) (low : ℕ) (to : Option ℕ) (q : Spot) (w : Bool) (l : Passes) (a : Activation) (ws : List Waiting) (o : Outcome Vals) →
      Comes symbols graphs rank m low to q (through w l) a ws o → Comes symbols graphs rank m low to q l a ws (and_then o (λ vs. perform (deliver w vs)))
  unfolding delivered_by deliver_more boxes_more counting change ◌>>=◌ pure perform deliver
  delivers m low to q w l a ws (Gives vs s) (d, kept, holds, way) =
      (d, kept, holds, subst (λ (u : State). Reaches symbols graphs m (going (having d (at_spot q a)) ws u)) (passes_through w l vs s) way)
  delivers m low to q w l a ws (Leaves e s) came = came
  delivers m low to q w l a ws (Fails x pl s) came = came
  delivers m low to q w l a ws (NotYet s) came = came

  -- a form that is visited, its own cost on what runs first
  pub visits : (low : ℕ) (to : Option ℕ) (p q : Spot) (t w : Bool) (n : ℕ) (l : Passes) (f : Force) (a : Activation) (ws : List Waiting) (s : State) (r : Run Vals) →
      Comes symbols graphs rank (going (at_spot p a) ws s) low to q (through w l) a ws (r (spent (n + 1) s)) →
      Comes symbols graphs rank (going (at_spot p a) ws s) low to q l a ws (visit (around facts t w f) r (spent n s))
  unfolding visit perform spend counting change ◌>>=ʳ◌
  visits low to p q t w n l f a ws s r came =
      delivers (going (at_spot p a) ws s) low to q w l a ws (r (spent 1 (spent n s)))
      (subst (λ (u : State). Comes symbols graphs rank (going (at_spot p a) ws s) low to q (through w l) a ws (r u)) (sym (spent_both n 1 s)) came)

  -- a part of which the first value counts, and then what follows with it
  pub first_then : (m : Machine) (low j : ℕ) (r q : Spot) (to : Option ℕ) (l : Passes) (a : Activation) (ws : List Waiting) (part : Run Vals) (s : State) (follow : Val → Run Vals) →
      low ≤ rank j → Comes symbols graphs rank m low (Some j) r none a ws (part s) →
      ((vs : Vals) (u : State) (d : Delivered) → Keeps rank low (Some j) a.delivered d → d j ≡ Some vs → Comes symbols graphs rank (going (having d (at_spot r a)) ws u) low to q l (having d a) ws (follow (first_of_values vs) u)) →
      Comes symbols graphs rank m low to q l a ws ((first part >>=ʳ follow) s)
  unfolding first perform pure_run ◌>>=ʳ◌
  first_then m low j r q to l a ws part s follow more came follows =
      subst (Comes symbols graphs rank m low to q l a ws) (regroup (part s))
      (comes_then symbols graphs rank m low j r q to l a ws (part s) (λ vs u. follow (first_of_values vs) u) more came follows)
    where
      regroup : (o : Outcome Vals) → and_then o (λ vs u. follow (first_of_values vs) u) ≡ and_then (and_then o (λ vs. pure_run (first_of_values vs))) follow
      regroup (Gives vs u) = refl
      regroup (Leaves e u) = refl
      regroup (Fails x pl u) = refl
      regroup (NotYet u) = refl

  -- at the end of a block the next one begins
  pub ends_there : (p : Spot) (b : ℕ) (a : Activation) (ws : List Waiting) (s : State) → a.graph ≡ number → Ends g p b →
      step symbols graphs (going (at_spot p a) ws s) ≡ going (at_spot (first_of b) a) ws s
  ends_there p b a ws s at (none_here, after_it) = rw (at, there, none_here, after_it) refl

  -- a run that comes to the end of a block comes to the next
  pub ends_comes : (m : Machine) (low : ℕ) (to : Option ℕ) (p : Spot) (b : ℕ) (l : Passes) (a : Activation) (ws : List Waiting) (o : Outcome Vals) → a.graph ≡ number → Ends g p b →
      Comes symbols graphs rank m low to p l a ws o → Comes symbols graphs rank m low to (first_of b) l a ws o
  ends_comes m low to p b l a ws (Gives vs s) at ends (d, kept, holds, way) =
      (d, kept, holds, reaches_then symbols graphs way (subst (Reaches symbols graphs (going (having d (at_spot p a)) ws (passed_on l vs s))) (ends_there p b (having d a) ws (passed_on l vs s) at ends) (one_step symbols graphs _)))
  ends_comes m low to p b l a ws (Leaves e s) at ends came = came
  ends_comes m low to p b l a ws (Fails x pl s) at ends came = came
  ends_comes m low to p b l a ws (NotYet s) at ends came = came

  -- an If that ends its block goes on at one of two
  pub forks_there : (p : Spot) (j b yes_block no_block : ℕ) (pl : Place) (vs : Vals) (d : Delivered) (a : Activation) (ws : List Waiting) (s : State) → a.graph ≡ number → Unasserted g j →
      node_at g p.block p.index ≡ Some (record { kind = kind.If j; cont = None; block = b; place = pl; charges = record { cost = 0; levels = 0; boxing = 0 } }) → Forks g p yes_block no_block → d j ≡ Some vs →
      step symbols graphs (going (at_spot p (having d a)) ws s) ≡ going (at_spot (first_of (if is_true (first_of_values vs) then yes_block else no_block)) (having (without_all (j ∷ []) d) a)) ws s
  unfolding box_before test_operands test_all pure ◌>>=◌
  forks_there p j b yes_block no_block pl vs d a ws s at free here (last_one, after_it) has = rw (at, there, here, free, has, last_one, after_it, spent_none s) refl

  -- IF
  pub if_does : (t w : Bool) (pl : Place) (x y z : Core) (n : ℕ) (l : Passes) (low : ℕ) (to : Option ℕ) (p q : Spot) →
      ((j : ℕ) (r : Spot) → StandsAt g facts rank false false x (n + 1) none low (Some j) p r → Does symbols graphs number g facts rank there call limit false false x (n + 1) none low (Some j) p r) →
      ((r r' : Spot) → StandsAt g facts rank t false y 0 (through w l) low to r r' → Does symbols graphs number g facts rank there call limit t false y 0 (through w l) low to r r') →
      ((r r' : Spot) → StandsAt g facts rank t false z 0 (through w l) low to r r' → Does symbols graphs number g facts rank there call limit t false z 0 (through w l) low to r r') →
      StandsAt g facts rank t w (If pl x y z) n l low to p q → Does symbols graphs number g facts rank there call limit t w (If pl x y z) n l low to p q
  unfolding eval
  if_does t w pl x y z n l low to p q test first_arm second_arm (j, r, yes_block, no_block, r1, r2, join, free, stands, (b, here), forks, stands_yes, ends_yes, stands_no, ends_no, end) f a ws s at force =
      subst (λ (k : Spot). Comes symbols graphs rank (going (at_spot p a) ws s) low to k l a ws (eval call limit (around facts t w f) (If pl x y z) (spent n s))) (sym end)
      (visits low to p (first_of join) t w n l f a ws s _
      (first_then (going (at_spot p a) ws s) low j r (first_of join) to (through w l) a ws (eval call limit (around facts false false f) x) (spent (n + 1) s)
      (λ v. if is_true v then eval call limit (around facts t false f) y else eval call limit (around facts t false f) z) free.0 (test j r stands f a ws s at force)
      (λ vs u d kept has.
      comes_having symbols graphs rank (going (at_spot r (having d a)) ws u) low low to (first_of join) (through w l) (having d a) (without_all (j ∷ []) d) ws _ (omega arith) (taken_keeps rank low to (j ∷ []) d (free.0, tt))
      (comes_after symbols graphs rank (going (at_spot r (having d a)) ws u) _ low to (first_of join) (through w l) (having (without_all (j ∷ []) d) a) ws _ (one_step symbols graphs _)
      (rw (forks_there r j b yes_block no_block pl vs d a ws u at free.1 here forks has) (arm f (having (without_all (j ∷ []) d) a) ws u at force (is_true (first_of_values vs))))))))
    where
      arm : (f : Force) (a : Activation) (ws : List Waiting) (u : State) → a.graph ≡ number → a.force ≡ f → (v : Bool) →
          Comes symbols graphs rank (going (at_spot (first_of (if v then yes_block else no_block)) a) ws u) low to (first_of join) (through w l) a ws ((if v then eval call limit (around facts t false f) y else eval call limit (around facts t false f) z) u)
      arm f a ws u at force true = ends_comes (going (at_spot (first_of yes_block) a) ws u) low to r1 join (through w l) a ws (eval call limit (around facts t false f) y u) at ends_yes
          (subst (λ (k : State). Comes symbols graphs rank (going (at_spot (first_of yes_block) a) ws u) low to r1 (through w l) a ws (eval call limit (around facts t false f) y k)) (spent_none u) (first_arm (first_of yes_block) r1 stands_yes f a ws u at force))
      arm f a ws u at force false = ends_comes (going (at_spot (first_of no_block) a) ws u) low to r2 join (through w l) a ws (eval call limit (around facts t false f) z u) at ends_no
          (subst (λ (k : State). Comes symbols graphs rank (going (at_spot (first_of no_block) a) ws u) low to r2 (through w l) a ws (eval call limit (around facts t false f) z k)) (spent_none u) (second_arm (first_of no_block) r2 stands_no f a ws u at force))

  module _ (begins : facts.start ≡ first_function graphs number) where
    -- a new function
    pub function_does : (t w : Bool) (pl : Place) (k : Lambda) (n : ℕ) (l : Passes) (low : ℕ) (to : Option ℕ) (p q : Spot) → StandsAt g facts rank t w (Function pl k) n l low to p q →
        Does symbols graphs number g facts rank there call limit t w (Function pl k) n l low to p q
    unfolding eval leaf_values
    function_does t w pl k n l low to p q (x, is, here, end) f a ws s at force =
        leaf_does symbols graphs number g facts rank there low to p q t w n pl l (leaf.Functional x) f a ws s (make_function facts (record { name = None; place = pl; lambda = k })) at here end
        (λ u. same_function g facts rank (first_function graphs number) x (record { name = None; place = pl; lambda = k }) u begins is)

    -- a local function as a value
    pub fun_local_does : (t w : Bool) (pl : Place) (k : ℕ) (n : ℕ) (l : Passes) (low : ℕ) (to : Option ℕ) (p q : Spot) → StandsAt g facts rank t w (FunLocal pl k) n l low to p q →
        Does symbols graphs number g facts rank there call limit t w (FunLocal pl k) n l low to p q
    unfolding eval leaf_values make_local
    fun_local_does t w pl k n l low to p q (x, (text, found, is), here, end) f a ws s at force =
        leaf_does symbols graphs number g facts rank there low to p q t w n pl l (leaf.Functional x) f a ws s (make_local facts (lookup k facts.names.functions)) at here end
        (λ u. rw found (same_function g facts rank (first_function graphs number) x text u begins is))
