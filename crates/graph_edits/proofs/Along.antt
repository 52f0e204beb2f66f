-- Lists of graphs that differ in one graph go along with each other, if the places of the two graphs do.
use Rattle.std.proofs.Common.{◌≡◌, ◌≢◌, ◌⊎◌, inl, inr, refl, ap, sym, subst, ◌∙◌, ℕ, suc, ◌<◌, ◌==◌, List, [], ◌∷◌, ◌++◌, map, length, take, Option, Some, None}
use Rattle.std.specs.Prelude.{slice_get}
use Rattle.std.specs.List.{list_all}
use Rattle.lisp_base.specs.declared.values.Val.{Val}
use Rattle.lisp_base.specs.declared.values.SymId.{SymId}
use Rattle.lisp_base.specs.Sort.{nil}
use Rattle.layers.specs.Input.{Input}
use Rattle.core_form.specs.State.{Symbol, Object, Fun, State}
use Rattle.core_form.specs.Effect.{Effect, ◌>>◌}
use Rattle.core_form.specs.Force.{Vals, Force}
use Rattle.core_form.specs.Run.{Outcome}
use Rattle.core_form.specs.Eval.{no_counts, constants_from, functions_from}
use Rattle.core_form.specs.AsLayer.{seen_of}
use Rattle.icr_graph.specs.declared.nodes.NodeKind.{NodeKind}
use Rattle.icr_graph.specs.declared.nodes.NodeKind.TheVariants as kind
use Rattle.icr_graph.specs.declared.nodes.Node.{Node}
use Rattle.icr_graph.specs.Kinds.{operands_of, extent_arrivals}
use Rattle.icr_graph.specs.Plain.{FlowGraph, nodes_in, blocks_after}
use Rattle.graph_meaning.specs.Machine.{Delivered, without_all, Activation, taking, Waiting, Control, Going, Calling, Returning, Leaving, Stopped, Next, Over, Machine, going, after}
use Rattle.graph_meaning.specs.Reading.{node_at, first_function, prelude_functions}
use Rattle.graph_meaning.specs.Effects.{test_operands, box_before}
use Rattle.graph_meaning.specs.Extents.{spent}
use Rattle.graph_meaning.specs.Running.{first_values, acts, runs_node, to_next, runs_at, form_activation, runs_in, step}
use Rattle.graph_meaning.specs.AsLayer.{outcome_by, outcome_at, first_machine, graph_steps}
use Rattle.graph_edits.proofs.Stepping.{GoesAlong}
use Rattle.graph_edits.proofs.Alike.{Edit, edited, of_kind, activation_at, Stands, elsewhere, within, Pauses, elsewhere_at, within_at, AllArrive, Waits, no_more, same, called, Alike, alike, call, rests, stands, comes_at, after_alike, either_alike}
use Rattle.graph_edits.proofs.Nodes.{Chooses, behind_both, at_last, Fits, acts_alike}
use Rattle.graph_edits.proofs.Steps.{Differ, leave_on_alike, enters_alike, returns_alike, form_alike}

-- ---- what an edit owes

-- a node of the graph, and the node of the edited one that does the same
pub record NodesAlike (E : Edit) (b i b' i' : ℕ) (d d' : Delivered) (nd : Node) (k : NodeKind) (x : ℕ) : Type 0 where
  pub at : node_at E.text b i ≡ Some nd
  pub at' : node_at (edited E) b' i' ≡ Some (of_kind k x nd)
  pub on : E.Spot b (suc i) b' (suc i')
  pub taken : E.Held (without_all (operands_of nd.kind) d) (without_all (operands_of k) d')
  pub tests : (f : Force) → (box_before nd.kind (first_values d (operands_of nd.kind)) >> test_operands E.text f d (operands_of nd.kind)) ≡ (box_before k (first_values d' (operands_of k)) >> test_operands (edited E) f d' (operands_of k))
  pub does : (start : ℕ) (a : Activation) (ws : List Waiting) (s : State) → acts E.text start nd d a ws nd.kind s ≡ acts E.text start nd d' a ws k s
  pub fits : Fits E E.text (edited E) E.number b i b' i' k

-- the graph alone goes on, to a place that goes along with the same one
pub record Lags (E : Edit) (rank : ℕ → ℕ → ℕ) (b i b' i' : ℕ) (d d' : Delivered) : Type 0 where
  pub block : ℕ
  pub index : ℕ
  pub spot : E.Spot block index b' i'
  pub moves : (start : ℕ) (us : Vals) (born : ℕ) (f : Force) (ws : List Waiting) (s : State) →
      (delivered : Delivered) × E.Held delivered d' × (runs_at E.text start (node_at E.text b i) (activation_at E.number b i d us born f) ws s ≡ going (activation_at E.number block index delivered us born f) ws s)
  pub falls : rank block index < rank b i

pub data Turn (E : Edit) (rank : ℕ → ℕ → ℕ) : (b i b' i' : ℕ) (d d' : Delivered) → Type 0 where
  runs : {b i b' i' : ℕ} {d d' : Delivered} (nd : Node) (k : NodeKind) (x : ℕ) → E.Spot b i b' i' → NodesAlike E b i b' i' d d' nd k x → Turn E rank b i b' i' d d'
  ends : {b i b' i' : ℕ} {d d' : Delivered} → node_at E.text b i ≡ None → node_at (edited E) b' i' ≡ None → E.Spot b i b' i' → E.Held d d' →
      blocks_after E.text b ≡ blocks_after (edited E) b' → AllArrive E E.number (blocks_after E.text b) → Turn E rank b i b' i' d d'
  lags : {b i b' i' : ℕ} {d d' : Delivered} → Lags E rank b i b' i' d d' → Turn E rank b i b' i' d d'

-- ---- what follows

module _ (E : Edit) where
  -- the end of a block
  next_alike : (bs : List ℕ) {a a' : Activation} → Stands E a a' → AllArrive E a.graph bs → {ws ws' : List Waiting} → Waits E a.graph ws ws' → (s : State) → Alike E (to_next bs a ws s) (to_next bs a' ws' s)
  next_alike [] st to w s = alike Going tt s st w
  next_alike (b ∷ bs) st to w s = either_alike E (list_all (λ c. c == b) bs) _ _ _ _ (alike Going tt s (comes_at E st b to.0) w) (alike Going tt s st w)

  -- what names places is at hand in another graph
  all_elsewhere : (c : ℕ) → c ≢ E.number → (bs : List ℕ) → AllArrive E c bs
  all_elsewhere c h [] = tt
  all_elsewhere c h (b ∷ bs) = (λ is. absurd (h is), all_elsewhere c h bs)

  chooses_elsewhere : (c : ℕ) → c ≢ E.number → (o : Option ℕ) (bs : List ℕ) → Chooses E c o o bs bs
  chooses_elsewhere c h None bs = at_last bs (all_elsewhere c h bs)
  chooses_elsewhere c h (Some y) bs = behind_both y y

  fits_elsewhere : (h : FlowGraph) (c b i : ℕ) → c ≢ E.number → (k : NodeKind) → Fits E h h c b i b i k
  fits_elsewhere h c b i other (kind.Ref l) = tt
  fits_elsewhere h c b i other (kind.Set y value) = tt
  fits_elsewhere h c b i other (kind.If test) = chooses_elsewhere c other (slice_get (nodes_in h b) (suc i)) (blocks_after h b)
  fits_elsewhere h c b i other (kind.Combination op ks) = tt
  fits_elsewhere h c b i other (kind.MvCombination g ks tail) = tt
  fits_elsewhere h c b i other (kind.Bind y value) = tt
  fits_elsewhere h c b i other (kind.Return value) = tt
  fits_elsewhere h c b i other (kind.Entry y exits) = all_elsewhere c other (extent_arrivals y)
  fits_elsewhere h c b i other (kind.Exit y entry) = refl

  -- a node in another graph
  node_elsewhere : (h : FlowGraph) (start : ℕ) (nd : Node) (a : Activation) → a.graph ≢ E.number → {ws ws' : List Waiting} → Waits E a.graph ws ws' → (s : State) →
      Alike E (runs_node h start nd a ws s) (runs_node h start nd a ws' s)
  node_elsewhere h start nd a other w s =
      let ks = operands_of nd.kind in
      let p : Pauses E (taking ks a) (taking ks a) = elsewhere_at (taking ks a) other in
      let d = without_all ks a.delivered in
      after_alike E _ _ ((box_before nd.kind (first_values a.delivered ks) >> test_operands h a.force a.delivered ks) (spent nd.charges.cost s)) (stands E p) w
      (λ u t. acts_alike E h h.node h.cont h.block start nd nd.kind nd.block a.delivered a.graph a.block a.index a.block a.index d d a.arguments a.born a.force p nd.kind (fits_elsewhere h a.graph a.block a.index other nd.kind) w t)

  at_elsewhere : (h : FlowGraph) (start : ℕ) (o : Option Node) (a : Activation) → a.graph ≢ E.number → {ws ws' : List Waiting} → Waits E a.graph ws ws' → (s : State) →
      Alike E (runs_at h start o a ws s) (runs_at h start o a ws' s)
  at_elsewhere h start None a other w s = next_alike (blocks_after h a.block) (elsewhere a other) (all_elsewhere a.graph other (blocks_after h a.block)) w s
  at_elsewhere h start (Some nd) a other w s = node_elsewhere h start nd a other w s

  -- a node in the edited graph
  node_within : (start : ℕ) {b i b' i' : ℕ} {d d' : Delivered} (nd : Node) (k : NodeKind) (x : ℕ) → E.Spot b i b' i' → NodesAlike E b i b' i' d d' nd k x →
      (us : Vals) (born : ℕ) (f : Force) {ws ws' : List Waiting} → Waits E E.number ws ws' → (s : State) →
      Alike E (runs_node E.text start nd (activation_at E.number b i d us born f) ws s) (runs_node (edited E) start (of_kind k x nd) (activation_at E.number b' i' d' us born f) ws' s)
  node_within start {b} {i} {b'} {i'} {d} {d'} nd k x spot n us born f {ws} {ws'} w s =
      let e = without_all (operands_of nd.kind) d in
      let e' = without_all (operands_of k) d' in
      let old = activation_at E.number b i e us born f in
      let new = activation_at E.number b' i' e' us born f in
      let p : Pauses E old new = within_at us born f nd k x n.at n.at' spot n.on n.taken in
      let m : Effect (Unit {0}) = box_before nd.kind (first_values d (operands_of nd.kind)) >> test_operands E.text f d (operands_of nd.kind) in
      subst (λ (m' : Effect (Unit {0})). Alike E (runs_node E.text start nd (activation_at E.number b i d us born f) ws s) (after new ws' (λ u. acts (edited E) start (of_kind k x nd) d' new ws' k) (m' (spent nd.charges.cost s)))) (n.tests f)
      (after_alike E _ _ (m (spent nd.charges.cost s)) (stands E p) w
      (λ u t. subst (λ (y : Machine). Alike E y (acts (edited E) start (of_kind k x nd) d' new ws' k t)) (sym (n.does start old ws t))
      (acts_alike E E.text E.nodes E.conts E.blocks start nd k x d' E.number b i b' i' e e' us born f p k n.fits w t)))

module _ (E : Edit) (rank : ℕ → ℕ → ℕ) (symbols : List Symbol) (graphs graphs' : List FlowGraph) (lists : Differ E graphs graphs') (Sure : Machine → Machine → Type 0) where
  abbrev pub rank_of : Machine → ℕ
  rank_of m = rank m.here.block m.here.index

  abbrev now : (graph block index : ℕ) → Delivered → Vals → ℕ → Force → List Waiting → State → Machine
  now c b i d us born f ws s = going (activation_at c b i d us born f) ws s

  -- what is known of each two places that the runs come to
  pub record Turns : Type 0 where
    pub turn : {b i b' i' : ℕ} {d d' : Delivered} (us : Vals) (born : ℕ) (f : Force) (ws ws' : List Waiting) (s : State) →
        Sure (now E.number b i d us born f ws s) (now E.number b' i' d' us born f ws' s) → E.Spot b i b' i' → E.Held d d' → Turn E rank b i b' i' d d'
    pub both_sure : (m m' : Machine) → Sure m m' → Sure (step symbols graphs m) (step symbols graphs' m')
    pub one_sure : (m m' : Machine) → Sure m m' → Sure (step symbols graphs m) m'

  -- one step of both, or of the first alone
  abbrev Goes : Machine → Machine → Type 0
  Goes m m' = Alike E (step symbols graphs m) (step symbols graphs' m') ⊎ (Alike E (step symbols graphs m) m' × (rank_of (step symbols graphs m) < rank_of m))

  goes_elsewhere : (a : Activation) → a.graph ≢ E.number → {ws ws' : List Waiting} → Waits E a.graph ws ws' → (s : State) → Alike E (step symbols graphs (going a ws s)) (step symbols graphs' (going a ws' s))
  goes_elsewhere a other {ws} {ws'} w s =
      subst (λ (o : Option FlowGraph). Alike E (runs_in symbols graphs (slice_get graphs a.graph) a ws s) (runs_in symbols graphs' o a ws' s)) (lists.others a.graph other)
      (by_case (slice_get graphs a.graph))
    where
      by_case : (o : Option FlowGraph) → Alike E (runs_in symbols graphs o a ws s) (runs_in symbols graphs' o a ws' s)
      by_case None = alike Going tt s (elsewhere a other) w
      by_case (Some h) =
          subst (λ (n : ℕ). Alike E (runs_at h (first_function graphs a.graph) (node_at h a.block a.index) a ws s) (runs_at h n (node_at h a.block a.index) a ws' s)) (lists.starts a.graph)
          (at_elsewhere E h (first_function graphs a.graph) (node_at h a.block a.index) a other w s)

  module _ (b i b' i' : ℕ) (d d' : Delivered) (us : Vals) (born : ℕ) (f : Force) (ws ws' : List Waiting) (w : Waits E E.number ws ws') (s : State) where
    abbrev old : Activation
    old = activation_at E.number b i d us born f

    abbrev new : Activation
    new = activation_at E.number b' i' d' us born f

    abbrev start : ℕ
    start = first_function graphs E.number

    step_before : step symbols graphs (going old ws s) ≡ runs_at E.text start (node_at E.text b i) old ws s
    step_before = ap (λ (o : Option FlowGraph). runs_in symbols graphs o old ws s) lists.before

    step_after : step symbols graphs' (going new ws' s) ≡ runs_at (edited E) start (node_at (edited E) b' i') new ws' s
    step_after =
        ap (λ (o : Option FlowGraph). runs_in symbols graphs' o new ws' s) lists.after
        ∙ ap (λ (n : ℕ). runs_at (edited E) n (node_at (edited E) b' i') new ws' s) (sym (lists.starts E.number))

    both_go : {m m' : Machine} → runs_at E.text start (node_at E.text b i) old ws s ≡ m → runs_at (edited E) start (node_at (edited E) b' i') new ws' s ≡ m' → Alike E m m' →
        Alike E (step symbols graphs (going old ws s)) (step symbols graphs' (going new ws' s))
    both_go {m} {m'} p q al =
        subst (λ (x : Machine). Alike E x (step symbols graphs' (going new ws' s))) (sym (step_before ∙ p))
        (subst (λ (x : Machine). Alike E m x) (sym (step_after ∙ q)) al)

    goes_within : Turn E rank b i b' i' d d' → Goes (going old ws s) (going new ws' s)
    goes_within (runs nd k x spot n) =
        inl (both_go (ap (λ (o : Option Node). runs_at E.text start o old ws s) n.at) (ap (λ (o : Option Node). runs_at (edited E) start o new ws' s) n.at') (node_within E start nd k x spot n us born f w s))
    goes_within (ends at at' spot held follow to) =
        inl (both_go
        (ap (λ (o : Option Node). runs_at E.text start o old ws s) at)
        (ap (λ (o : Option Node). runs_at (edited E) start o new ws' s) at' ∙ ap (λ (bs : List ℕ). to_next bs new ws' s) (sym follow))
        (next_alike E (blocks_after E.text b) (within us born f spot held) to w s))
    goes_within (lags l) =
        let on = l.moves start us born f ws s in
        let moves = step_before ∙ on.2 in
        inr (
          subst (λ (x : Machine). Alike E x (going new ws' s)) (sym moves) (alike Going tt s (within us born f l.spot on.1) w),
          subst (λ (x : Machine). rank_of x < rank b i) (sym moves) l.falls,
        )

  module _ (turns : Turns) where
    goes : {m m' : Machine} → Alike E m m' → Sure m m' → Goes m m'
    goes (alike Going u s (elsewhere a other) w) sure = inl (goes_elsewhere a other w s)
    goes (alike Going u {ws = ws} {ws' = ws'} s (within {b} {i} {b'} {i'} {d} {d'} us born f spot held) w) sure = goes_within b i b' i' d d' us born f ws ws' w s (turns.turn us born f ws ws' s sure spot held)
    goes (alike (Calling tail k closed vs entry) u s st w) sure = absurd u
    goes (alike (Returning vs) u s st w) sure = inl (returns_alike E graphs graphs' lists vs st w s)
    goes (alike (Leaving e) u s st w) sure = inl (leave_on_alike E st w e s)
    goes (alike (Stopped x p) u s st w) sure = inl (alike (Stopped x p) tt s st w)
    goes (alike (Next n v) u s st w) sure = absurd u
    goes (alike (Over v) u s st w) sure = absurd u
    goes (call tail k closed vs entry frame s p w) sure = inl (enters_alike E graphs graphs' lists tail closed vs frame p w s (lists.found k) entry)
    goes (rests Going a a' s u) sure = absurd u
    goes (rests (Calling tail k closed vs entry) a a' s u) sure = absurd u
    goes (rests (Returning vs) a a' s u) sure = absurd u
    goes (rests (Leaving e) a a' s u) sure = absurd u
    goes (rests (Stopped x p) a a' s u) sure = absurd u
    goes (rests (Next n v) a a' s u) sure = inl (form_alike E graphs graphs' lists symbols n v a a' s)
    goes (rests (Over v) a a' s u) sure = inl (rests (Over v) a a' s tt)

    -- ---- what is seen

    waiting_outcome : (c : Control) {n : ℕ} {ws ws' : List Waiting} → Waits E n ws ws' → (s : State) → outcome_by c ws s ≡ outcome_by c ws' s
    waiting_outcome Going w s = refl
    waiting_outcome (Calling tail k closed vs entry) w s = refl
    waiting_outcome (Returning vs) w s = refl
    waiting_outcome (Leaving e) no_more s = refl
    waiting_outcome (Leaving e) (same x l w) s = refl
    waiting_outcome (Leaving e) (called tail frame a a' p w) s = refl
    waiting_outcome (Stopped x p) w s = refl
    waiting_outcome (Next n v) w s = refl
    waiting_outcome (Over v) w s = refl

    outcome_alike : {m m' : Machine} → Alike E m m' → outcome_at m ≡ outcome_at m'
    outcome_alike (alike c u s st w) = waiting_outcome c w s
    outcome_alike (call tail k closed vs entry frame s p w) = refl
    outcome_alike (rests c a a' s u) = refl

    -- ---- the whole runs

    abbrev pub Related : Machine → Machine → Type 0
    Related m m' = Alike E m m' × Sure m m'

    still_sure : (m m' : Machine) → Sure m m' → Goes m m' → Related (step symbols graphs m) (step symbols graphs' m') ⊎ (Related (step symbols graphs m) m' × (rank_of (step symbols graphs m) < rank_of m))
    still_sure m m' sure (inl al) = inl (al, turns.both_sure m m' sure)
    still_sure m m' sure (inr f) = inr ((f.0, turns.one_sure m m' sure), f.1)

    abbrev state_from : List Object → List (SymId × ℕ) → List ℕ → State
    state_from heap defined input = record {
      taken = 0;
      store = heap ++ map (λ f. Fun f.1 []) defined;
      frame = [];
      next_entry = 1;
      values = constants_from 0 symbols;
      functions = functions_from (length heap) defined;
      input = input;
      output = [];
      counts = no_counts;
    }

    abbrev first_from : List Object → (prelude : ℕ) → List (SymId × ℕ) → List ℕ → Machine
    first_from heap prelude defined input =
        record { control = Next prelude nil; here = form_activation symbols prelude 0 0 0; waiting = []; state = state_from heap defined input }

    first_alike : (heap : List Object) (prelude : ℕ) → prelude_functions 0 (take prelude graphs) ≡ prelude_functions 0 (take prelude graphs') → (input : List ℕ) →
        Alike E (first_machine heap symbols prelude graphs input) (first_machine heap symbols prelude graphs' input)
    first_alike heap prelude e input =
        subst (λ (defined : List (SymId × ℕ)). Alike E (first_machine heap symbols prelude graphs input) (first_from heap prelude defined input)) e (rests (Next prelude nil) _ _ _ tt)

    pub goes_along : (heap : List Object) (prelude : ℕ) → prelude_functions 0 (take prelude graphs) ≡ prelude_functions 0 (take prelude graphs') →
        ((i : Input) → Sure (first_machine heap symbols prelude graphs i.letters) (first_machine heap symbols prelude graphs' i.letters)) →
        GoesAlong (graph_steps heap symbols prelude graphs) (graph_steps heap symbols prelude graphs') rank_of Related
    goes_along heap prelude e sure = record {
      starts = λ i. (first_alike heap prelude e i.letters, sure i);
      shows = λ m m' r. ap (λ (o : Outcome Val). seen_of symbols o) (outcome_alike r.0);
      goes = λ m m' r. still_sure m m' r.1 (goes r.0 r.1);
    }
