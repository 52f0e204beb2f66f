-- A node that has no effect, and whose values nobody takes, is gone: the meaning is kept.
use Rattle.std.proofs.Common.{◌≡◌, ◌≢◌, ◌⊎◌, inl, inr, refl, ap, sym, subst, ◌∙◌, ℕ, suc, ◌-◌, ◌<◌, ◌≤◌, arith, Bool, true, false, not, ◌||◌, ◌==◌, if◌then◌else◌, eq-eqb, ne_eqb, List, [], ◌∷◌, ◌++◌, map-id, length, Option, Some, None, option_map, is_some}
use Rattle.std.specs.Prelude.{slice_get}
use Rattle.std.proofs.lemmas.Bool.{cases_eq, cases_lt, eqb-true}
use Rattle.layers.specs.Keeping.{Keeps}
use Rattle.core_form.specs.State.{Symbol, Object, State}
use Rattle.core_form.specs.Effect.{Ended, Gave, Left, Failed, Effect, ◌>>◌}
use Rattle.core_form.specs.Force.{Vals}
use Rattle.core_form.specs.Step.{with_entry as with_entry_in}
use Rattle.icr_graph.specs.declared.nodes.NodeKind.{NodeKind}
use Rattle.icr_graph.specs.declared.nodes.NodeKind.TheVariants as kind
use Rattle.icr_graph.specs.declared.nodes.Extent.{Extent}
use Rattle.icr_graph.specs.declared.nodes.Extent.TheVariants as extent
use Rattle.icr_graph.specs.declared.nodes.Node.{Node}
use Rattle.icr_graph.specs.declared.nodes.Tag.{Tag}
use Rattle.ir_ids.specs.Entries.{with_entry}
use Rattle.icr_graph.specs.declared.parts.Cont.{Cont}
use Rattle.icr_graph.specs.declared.parts.Block.{Block}
use Rattle.icr_graph.specs.Lists.{has_number, are_distinct, without, other_than, numbers_of, listed, each, behind}
use Rattle.icr_graph.specs.Kinds.{operands_of, arrivals_of, apart_from}
use Rattle.icr_graph.specs.Plain.{FlowGraph, nodes_in, blocks_after, block_of, cont_of, dest_of}
use Rattle.icr_graph.specs.Whole.{IsWhole}
use Rattle.icr_graph.specs.Edits.{alone, not_taken_by, not_used_by, not_holding, no_arrival_of, without_node}
use Rattle.icr_graph.specs.Faults.{is_empty, is_node, are_taken, is_last_in}
use Rattle.icr_graph.proofs.Allowed.{passed}
use Rattle.icr_graph.proofs.Distinct.{neither}
use Rattle.icr_graph.proofs.Touched.{without_none}
use Rattle.icr_graph.proofs.Regrouped.{has_another, has_one}
use Rattle.graph_meaning.specs.Machine.{Delivered, nothing, without_all, delivered_to, or_no_values, Activation, taking, Waiting, Landing, Tagged, Going, Leaving, Stopped, Machine, going, after}
use Rattle.graph_meaning.specs.Reading.{assertions_on, named, variable_of_entry, variable_left}
use Rattle.graph_meaning.specs.Effects.{test_operands, box_before}
use Rattle.graph_meaning.specs.Extents.{enter_by, opened, spent}
use Rattle.graph_meaning.specs.Running.{first_values, acts, runs_node, runs_at, force_at_top}
use Rattle.graph_meaning.specs.AsLayer.{first_state, graphs_together}
use Rattle.graph_meaning.specs.Laws.{GraphsAreNeverFull}
use Rattle.graph_edits.specs.Laws.{MeansTheSame, HasNoEffect, RetiringKept}
use Rattle.graph_edits.proofs.Alike.{Edit, with_others, activation_at, AllArrive}
use Rattle.graph_edits.proofs.Steps.{got_has}
use Rattle.graph_edits.proofs.Nodes.{Chooses, behind_both}
use Rattle.graph_edits.proofs.Along.{Turn, runs, ends, lags}
use Rattle.graph_edits.proofs.Reading.{got_some, got_none, fits_from, chooses_same}
use Rattle.graph_edits.proofs.Values.{Agrees, acts_agree, first_same, tests_pass, left_over}
use Rattle.graph_edits.proofs.Without.{got_before, got_behind, one_place, next_behind, has_got, same_operands, same_boxes, same_extent, acts_apart}
use Rattle.graph_edits.proofs.Kept.{both_keep}
use Rattle.graph_edits.proofs.Blocks.{node_live, true_of, impossible, some_first}

-- ---- a node that opens the extent of a block or tagbody has an effect

-- where more waits afterwards, it isn't the same that waits
more_waits : {A : Type 0} (a : Activation) (ws : List Waiting) (next : A → State → Machine) (o : Ended A) (b : Activation) (s : State) →
    ((r : A) (t : State) → (W : Waiting) × ((next r t).waiting ≡ W ∷ ws)) → after a ws next o ≡ going b ws s → ⊥
more_waits a ws next (Gave r t) b s more e = longer (ap length (sym (more r t).1 ∙ ap (λ (m : Machine). m.waiting) e))
  where
    longer : suc (length ws) ≡ length ws → ⊥
    longer q = omega (arith, q)
more_waits a ws next (Left x t) b s more e = other_control (ap (λ (m : Machine). m.control) e)
  where
    other_control : Leaving x ≡ Going → ⊥
    other_control q = cc
more_waits a ws next (Failed x p t) b s more e = other_control (ap (λ (m : Machine). m.control) e)
  where
    other_control : Stopped x p ≡ Going → ⊥
    other_control q = cc

-- so does what follows another effect
then_waits : {A : Type 0} (a : Activation) (ws : List Waiting) (next : A → State → Machine) (o : Ended A) (b : Activation) (s : State) →
    ((r : A) (t : State) → next r t ≡ going b ws s → ⊥) → after a ws next o ≡ going b ws s → ⊥
then_waits a ws next (Gave r t) b s never e = never r t e
then_waits a ws next (Left x t) b s never e = other_control (ap (λ (m : Machine). m.control) e)
  where
    other_control : Leaving x ≡ Going → ⊥
    other_control q = cc
then_waits a ws next (Failed x p t) b s never e = other_control (ap (λ (m : Machine). m.control) e)
  where
    other_control : Stopped x p ≡ Going → ⊥
    other_control q = cc

module _ (g : FlowGraph) (start : ℕ) (nd : Node) (x : ℕ) (exits : List ℕ) (a : Activation) (ws : List Waiting) (s : State) (b : Activation) where
  named_pushes : (land : ℕ) → runs_node g start (record nd { kind = kind.Entry (extent.Named x land) exits }) a ws s ≡ going b ws s → ⊥
  named_pushes land e =
      let k = kind.Entry (extent.Named x land) exits in
      let v = record nd { kind = k } in
      let pushed : ℕ → Waiting = λ n. Landing n false (record { block = land; cont = nd.cont; charges = nd.charges }) a.force in
      then_waits {A = Unit {0}} (taking [] a) ws (λ u. acts g start v a.delivered (taking [] a) ws k) ((box_before k [] >> test_operands g a.force a.delivered []) (spent nd.charges.cost s)) b s
      (λ u t q. more_waits (taking [] a) ws (λ n. opened (taking [] a) ws (with_entry_in n a.force) (pushed n)) (enter_by (g.variable x) t) b s (λ n r. (pushed n, refl)) q) e

  tags_push : (tags : List Tag) → runs_node g start (record nd { kind = kind.Entry (extent.Tags x tags) exits }) a ws s ≡ going b ws s → ⊥
  tags_push tags e =
      let k = kind.Entry (extent.Tags x tags) exits in
      let v = record nd { kind = k } in
      let pushed : ℕ → Waiting = λ n. Tagged n tags a.force in
      then_waits {A = Unit {0}} (taking [] a) ws (λ u. acts g start v a.delivered (taking [] a) ws k) ((box_before k [] >> test_operands g a.force a.delivered []) (spent nd.charges.cost s)) b s
      (λ u t q. more_waits (taking [] a) ws (λ n. opened (taking [] a) ws (with_entry_in n a.force) (pushed n)) (enter_by (g.variable x) t) b s (λ n r. (pushed n, refl)) q) e

-- some activation at a place, and some state
abbrev some_activation : ℕ → ℕ → Activation
some_activation b i = activation_at 0 b i nothing [] 0 (force_at_top [] 0)

abbrev some_state : State
some_state = first_state [] [] [] []

abbrev of_that_kind : Node → NodeKind → Node
of_that_kind nd k = record nd { kind = k }

no_extent : (g : FlowGraph) (n : ℕ) (nd : Node) (b i : ℕ) → g.node n ≡ Some nd → slice_get (nodes_in g b) i ≡ Some n → HasNoEffect g n → variable_of_entry (g.node n) ≡ None
no_extent g n nd b i is got idle = ap variable_of_entry is ∙ by_kind nd.kind refl
  where
    by_extent : (x : Extent) (exits : List ℕ) → nd.kind ≡ kind.Entry x exits → variable_of_entry (Some (of_that_kind nd (kind.Entry x exits))) ≡ None
    by_extent (extent.Named x land) exits e =
        let r = idle (of_that_kind nd (kind.Entry (extent.Named x land) exits)) (is ∙ ap (λ (k : NodeKind). Some (of_that_kind nd k)) e) 0 (some_activation b i) [] some_state got in
        absurd (named_pushes g 0 nd x exits (some_activation b i) [] some_state _ land r.1)
    by_extent (extent.Tags x tags) exits e =
        let r = idle (of_that_kind nd (kind.Entry (extent.Tags x tags) exits)) (is ∙ ap (λ (k : NodeKind). Some (of_that_kind nd k)) e) 0 (some_activation b i) [] some_state got in
        absurd (tags_push g 0 nd x exits (some_activation b i) [] some_state _ tags r.1)
    by_extent (extent.Catching tag land) exits e = refl
    by_extent (extent.Guarded cleanup) exits e = refl
    by_extent (extent.Special s value) exits e = refl
    by_extent (extent.Keep values) exits e = refl

    of_that : (k : NodeKind) → nd.kind ≡ k → variable_of_entry (Some (of_that_kind nd k)) ≡ None
    of_that (kind.Ref l) e = refl
    of_that (kind.Set x value) e = refl
    of_that (kind.If test) e = refl
    of_that (kind.Combination op ks) e = refl
    of_that (kind.MvCombination f ks tail) e = refl
    of_that (kind.Bind x value) e = refl
    of_that (kind.Return value) e = refl
    of_that (kind.Entry x exits) e = by_extent x exits e
    of_that (kind.Exit w entry) e = refl

    by_kind : (k : NodeKind) → nd.kind ≡ k → variable_of_entry (Some nd) ≡ None
    by_kind k e = ap (λ (x : NodeKind). variable_of_entry (Some (of_that_kind nd x))) e ∙ of_that k e

-- ---- the places

-- node n stands at place p of block at
pub data Closer (at p : ℕ) : (b i b' i' : ℕ) → Type 0 where
  in_other : (b i : ℕ) → b ≢ at → Closer at p b i b i
  up_to_it : (i : ℕ) → i ≤ p → Closer at p at i at i
  behind_it : (i : ℕ) → p ≤ i → Closer at p at (suc i) at i

pub begins_closer : (at p b : ℕ) → Closer at p b 0 b 0
begins_closer at p b = by_case (cases_eq b at)
  where
    by_case : (b ≡ at) ⊎ (b ≢ at) → Closer at p b 0 b 0
    by_case (inl is) = subst (λ (x : ℕ). Closer at p x 0 x 0) (sym is) (up_to_it 0 (omega arith))
    by_case (inr other) = in_other b 0 other

-- continuations hold the same, but for these
pub record HeldBut (ks : List ℕ) (o : Option ℕ) (d d' : Delivered) : Type 0 where
  pub others : (j : ℕ) → has_number j ks ≡ false → has_number j (listed o) ≡ false → d j ≡ d' j

delivered_other : (o : Option ℕ) (vs : Vals) (d : Delivered) (j : ℕ) → has_number j (listed o) ≡ false → delivered_to o vs d j ≡ d j
delivered_other None vs d j h = refl
delivered_other (Some k) vs d j h = by_case (cases_eq k j) h
  where
    by_case : (k ≡ j) ⊎ (k ≢ j) → ((k == j) || false) ≡ false → (if j == k then Some vs else d j) ≡ d j
    by_case (inl e) q = absurd_of (rw (eq-eqb k j e) at q)
      where
        absurd_of : true ≡ false → (if j == k then Some vs else d j) ≡ d j
        absurd_of r = cc
    by_case (inr other) q = rw (ne_eqb j k (λ e. other (sym e))) refl

pub but_delivering : (ks : List ℕ) (o k : Option ℕ) (vs : Vals) (d d' : Delivered) → HeldBut ks o d d' → HeldBut ks o (delivered_to k vs d) (delivered_to k vs d')
but_delivering ks o None vs d d' h = h
but_delivering ks o (Some k) vs d d' h = record { others = λ j x y. ap (λ (z : Option Vals). if j == k then Some vs else z) (h.others j x y) }

but_taking : (ks : List ℕ) (o : Option ℕ) (xs : List ℕ) (d d' : Delivered) → HeldBut ks o d d' → HeldBut ks o (without_all xs d) (without_all xs d')
but_taking ks o xs d d' h = record {
  others = λ j x y. left_over xs d j ∙ (ap (λ (z : Option Vals). if has_number j xs then None else z) (h.others j x y) ∙ sym (left_over xs d' j));
}

-- a number that isn't another is all that a continuation's destination is
one_alone : (o : Option ℕ) (m n : ℕ) → has_number m (listed o) ≡ true → m ≢ n → has_number n (listed o) ≡ false
one_alone None m n h other = refl
one_alone (Some k) m n h other = by_case (cases_eq k n) h
  where
    by_case : (k ≡ n) ⊎ (k ≢ n) → ((k == m) || false) ≡ true → ((k == n) || false) ≡ false
    by_case (inl e) q = absurd_of (rw (ne_eqb k m (λ x. other (sym x ∙ e))) at q)
      where
        absurd_of : false ≡ true → ((k == n) || false) ≡ false
        absurd_of r = cc
    by_case (inr is_not) q = rw (ne_eqb k n is_not) refl

module _ (number : ℕ) (g : FlowGraph) (n : ℕ) (nd : Node) (p : ℕ) (w : IsWhole g) (is : g.node n ≡ Some nd) (got : slice_get (nodes_in g nd.block) p ≡ Some n)
    (unused : (k : ℕ) → has_number k (listed nd.cont) ≡ true → dest_of g k ≡ []) (y : ℕ) (more : slice_get (nodes_in g nd.block) (suc p) ≡ Some y) (idle : HasNoEffect g n) where
  abbrev at : ℕ
  at = nd.block

  abbrev ops : List ℕ
  ops = operands_of nd.kind

  abbrev other_nodes : ℕ → Option Node
  other_nodes = with_entry (each (alone n) g.node) n None

  abbrev other_conts : ℕ → Option Cont
  other_conts = each (not_used_by n) (each (not_taken_by n) g.cont)

  abbrev other_blocks : ℕ → Option Block
  other_blocks = each (not_holding n) (each (no_arrival_of n) g.block)

  abbrev pub retiring : Edit
  retiring = record {
    number = number;
    text = g;
    nodes = other_nodes;
    conts = other_conts;
    blocks = other_blocks;
    Spot = Closer at p;
    Held = HeldBut ops nd.cont;
    fresh = record { others = λ j x z. refl };
    delivering = but_delivering ops nd.cont;
    entered = λ j f e b has. begins_closer at p b;
  }

  abbrev g' : FlowGraph
  g' = with_others g other_nodes other_conts other_blocks

  abbrev pub rank : ℕ → ℕ → ℕ
  rank b i = suc p - i

  all_begin : (bs : List ℕ) → AllArrive retiring number bs
  all_begin [] = tt
  all_begin (b ∷ bs) = ((λ e. begins_closer at p b), all_begin bs)

  -- ---- what is read

  nodes_less : (b : ℕ) → nodes_in g' b ≡ without n (nodes_in g b)
  nodes_less b = by_case (g.block b)
    where
      by_case : (o : Option Block) → numbers_of (λ x. x.nodes) (option_map (not_holding n) (option_map (no_arrival_of n) o)) ≡ without n (numbers_of (λ x. x.nodes) o)
      by_case None = refl
      by_case (Some v) = refl

  after_same : (b : ℕ) → blocks_after g' b ≡ blocks_after g b
  after_same b = by_case (g.block b)
    where
      by_case : (o : Option Block) → numbers_of (λ x. x.after) (option_map (not_holding n) (option_map (no_arrival_of n) o)) ≡ numbers_of (λ x. x.after) o
      by_case None = refl
      by_case (Some v) = refl

  same_assertions : (k : ℕ) → assertions_on (g.cont k) ≡ assertions_on (other_conts k)
  same_assertions k = by_case (g.cont k)
    where
      by_case : (o : Option Cont) → assertions_on o ≡ assertions_on (option_map (not_used_by n) (option_map (not_taken_by n) o))
      by_case None = refl
      by_case (Some c) = refl

  gone_variable : variable_of_entry (g.node n) ≡ None
  gone_variable = no_extent g n nd at p is got idle

  same_variable : (m : ℕ) → variable_of_entry (g.node m) ≡ variable_of_entry (other_nodes m)
  same_variable m = by_case (cases_eq m n)
    where
      kept : (o : Option Node) → variable_of_entry o ≡ variable_of_entry (option_map (alone n) o)
      kept None = refl
      kept (Some v) = same_extent n v.kind v

      by_case : (m ≡ n) ⊎ (m ≢ n) → variable_of_entry (g.node m) ≡ variable_of_entry (other_nodes m)
      by_case (inl e) = ap (λ (x : ℕ). variable_of_entry (g.node x)) e ∙ (gone_variable ∙ rw (eq-eqb m n e) refl)
      by_case (inr other) = rw (ne_eqb m n other) (kept (g.node m))

  same_left : (entry : Option ℕ) → variable_left g entry ≡ variable_left g' entry
  same_left None = refl
  same_left (Some m) = ap (λ (o : Option ℕ). named g.variable o) (same_variable m)

  -- an exit that named the node left nothing
  left_apart : (entry : Option ℕ) → variable_left g entry ≡ variable_left g (other_than n entry)
  left_apart None = refl
  left_apart (Some m) = by_case (cases_eq m n)
    where
      by_case : (m ≡ n) ⊎ (m ≢ n) → variable_left g (Some m) ≡ variable_left g (if m == n then None else Some m)
      by_case (inl e) = ap (λ (o : Option ℕ). named g.variable o) (ap (λ (x : ℕ). variable_of_entry (g.node x)) e ∙ gone_variable) ∙ rw (eq-eqb m n e) refl
      by_case (inr other) = rw (ne_eqb m n other) refl

  -- the node stands in no other block
  not_there : (b : ℕ) → b ≢ at → has_number n (nodes_in g b) ≡ false
  not_there b other = sym (w.places n b) ∙ (ap (λ (o : Option Node). has_number b (numbers_of (λ x. x.block ∷ []) o)) is ∙ has_another b at other)

  -- ---- another node

  operand_of : (k m : ℕ) (v : Node) → g.node m ≡ Some v → has_number k (operands_of v.kind) ≡ has_number m (dest_of g k)
  operand_of k m v e = ap (λ (o : Option Node). has_number k (numbers_of (λ x. operands_of x.kind) o)) (sym e) ∙ w.operands m k

  -- what another node takes is not what the node took or gave
  not_taken : (m : ℕ) (v : Node) → g.node m ≡ Some v → m ≢ n → (j : ℕ) → has_number j (operands_of v.kind) ≡ true → has_number j ops ≡ false
  not_taken m v e other j has =
      operand_of j n nd is ∙ one_of (g.cont j) (sym (operand_of j m v e) ∙ has)
    where
      one_of : (o : Option Cont) → has_number m (numbers_of (λ x. listed x.dest) o) ≡ true → has_number n (numbers_of (λ x. listed x.dest) o) ≡ false
      one_of None h = refl
      one_of (Some c) h = one_alone c.dest m n h other

  not_given : (m : ℕ) (v : Node) → g.node m ≡ Some v → (j : ℕ) → has_number j (operands_of v.kind) ≡ true → has_number j (listed nd.cont) ≡ false
  not_given m v e j has = by_case (has_number j (listed nd.cont)) refl
    where
      by_case : (t : Bool) → has_number j (listed nd.cont) ≡ t → t ≡ false
      by_case true h = absurd_of (sym (operand_of j m v e ∙ ap (has_number m) (unused j h)) ∙ has)
        where
          absurd_of : false ≡ true → true ≡ false
          absurd_of r = cc
      by_case false h = refl

  abbrev Choosing : (b i b' i' : ℕ) → Type 0
  Choosing b i b' i' = Chooses retiring number (slice_get (nodes_in g b) (suc i)) (slice_get (nodes_in g' b') (suc i')) (blocks_after g b) (blocks_after g' b')

  other_node : (b i b' i' m : ℕ) (v : Node) {d d' : Delivered} → slice_get (nodes_in g b) i ≡ Some m → slice_get (nodes_in g' b') i' ≡ Some m → g.node m ≡ Some v → m ≢ n →
      Closer at p b i b' i' → Closer at p b (suc i) b' (suc i') → Choosing b i b' i' → HeldBut ops nd.cont d d' → Turn retiring rank b i b' i' d d'
  other_node b i b' i' m v {d} {d'} here there e other spot next chooses h =
      let ks = operands_of v.kind in
      let k' = apart_from n v.kind in
      let agrees : Agrees d d' ks = λ j has. ap or_no_values (h.others j (not_taken m v e other j has) (not_given m v e j has)) in
      runs v k' v.block spot (record {
        at = ap (named g.node) here ∙ e;
        at' = ap (named other_nodes) there ∙ rw (ne_eqb m n other, e) refl;
        on = next;
        taken = subst (λ (xs : List ℕ). HeldBut ops nd.cont (without_all ks d) (without_all xs d')) (sym (same_operands n v.kind)) (but_taking ops nd.cont ks d d' h);
        tests = λ f.
            ap (λ (vs : Vals). box_before v.kind vs >> test_operands g f d ks) (first_same d d' ks agrees ∙ ap (first_values d') (sym (same_operands n v.kind)))
            ∙ (ap (λ (t : Effect (Unit {0})). box_before v.kind (first_values d' (operands_of k')) >> t)
            (tests_pass g g' f d d' (λ x. x) ks (λ j has. (same_assertions j, agrees j has)) ∙ ap (test_operands g' f d') (map-id ks ∙ sym (same_operands n v.kind)))
            ∙ ap (λ (t : Effect (Unit {0})). t >> test_operands g' f d' (operands_of k')) (same_boxes n v.kind (first_values d' (operands_of k'))));
        does = λ start a ws s. acts_agree d d' g start v a ws v.kind agrees s ∙ acts_apart n g left_apart start v d' a ws v.kind s;
        fits = fits_from retiring g g' number b i b' i' k' (λ t. chooses) (all_begin (arrivals_of k')) same_left;
      })

  -- ---- the turns

  other_turn : (b i : ℕ) → b ≢ at → {d d' : Delivered} → HeldBut ops nd.cont d d' → Turn retiring rank b i b i d d'
  other_turn b i other {d} {d'} h = by_case (slice_get (nodes_in g b) i) refl
    where
      same_nodes : nodes_in g' b ≡ nodes_in g b
      same_nodes = nodes_less b ∙ without_none n (nodes_in g b) (not_there b other)

      choosing : Choosing b i b i
      choosing =
          subst (λ (xs : List ℕ). Chooses retiring number (slice_get (nodes_in g b) (suc i)) (slice_get xs (suc i)) (blocks_after g b) (blocks_after g' b)) (sym same_nodes)
          (subst (λ (bs : List ℕ). Chooses retiring number (slice_get (nodes_in g b) (suc i)) (slice_get (nodes_in g b) (suc i)) (blocks_after g b) bs) (sym (after_same b))
          (chooses_same retiring number (slice_get (nodes_in g b) (suc i)) (blocks_after g b) (all_begin (blocks_after g b))))

      not_n : (m : ℕ) → slice_get (nodes_in g b) i ≡ Some m → m ≢ n
      not_n m e q = absurd_of (sym (not_there b other) ∙ (ap (λ (x : ℕ). has_number x (nodes_in g b)) (sym q) ∙ got_has (nodes_in g b) i m e))
        where
          absurd_of : false ≡ true → ⊥
          absurd_of r = cc

      by_case : (o : Option ℕ) → slice_get (nodes_in g b) i ≡ o → Turn retiring rank b i b i d d'
      by_case None e = ends (ap (named g.node) e) (ap (named other_nodes) (ap (λ (xs : List ℕ). slice_get xs i) same_nodes ∙ e)) (in_other b i other) h (sym (after_same b)) (all_begin (blocks_after g b))
      by_case (Some m) e =
          let v = node_live g w b m (got_has (nodes_in g b) i m e) in
          other_node b i b i m v.0 e (ap (λ (xs : List ℕ). slice_get xs i) same_nodes ∙ e) v.1 (not_n m e) (in_other b i other) (in_other b (suc i) other) choosing h

  -- what stands before the node and behind it
  once : are_distinct (nodes_in g at) ≡ true
  once = w.distinct at

  before_it : (i : ℕ) → i < p → slice_get (nodes_in g' at) i ≡ slice_get (nodes_in g at) i
  before_it i less = ap (λ (xs : List ℕ). slice_get xs i) (nodes_less at) ∙ got_before n (nodes_in g at) p i once got less

  after_it : (i : ℕ) → p ≤ i → slice_get (nodes_in g' at) i ≡ slice_get (nodes_in g at) (suc i)
  after_it i le = ap (λ (xs : List ℕ). slice_get xs i) (nodes_less at) ∙ got_behind n (nodes_in g at) p i once got le

  elsewhere_in : (m i : ℕ) → slice_get (nodes_in g at) i ≡ Some m → i ≢ p → m ≢ n
  elsewhere_in m i e other q = other (one_place n (nodes_in g at) p i once got (e ∙ ap Some q))

  -- an If before the node has a node behind it in both
  front_choosing : (i : ℕ) → i < p → Choosing at i at i
  front_choosing i less = by_case (slice_get (nodes_in g at) (suc i)) refl (slice_get (nodes_in g' at) (suc i)) refl
    where
      next_there : (suc i < p) ⊎ (p ≤ suc i) → (z : ℕ) × (slice_get (nodes_in g' at) (suc i) ≡ Some z)
      next_there (inl l) = there_by (slice_get (nodes_in g at) (suc i)) refl
        where
          there_by : (o : Option ℕ) → slice_get (nodes_in g at) (suc i) ≡ o → (z : ℕ) × (slice_get (nodes_in g' at) (suc i) ≡ Some z)
          there_by None e = absurd (omega (arith, l, got_none (nodes_in g at) (suc i) e, got_some (nodes_in g at) p n got))
          there_by (Some z) e = (z, before_it (suc i) l ∙ e)
      next_there (inr l) =
          (y, after_it (suc i) l ∙ (ap (slice_get (nodes_in g at)) {x = suc (suc i)} {y = suc p} (omega (arith, l, less)) ∙ more))

      by_case : (o : Option ℕ) → slice_get (nodes_in g at) (suc i) ≡ o → (o' : Option ℕ) → slice_get (nodes_in g' at) (suc i) ≡ o' → Choosing at i at i
      by_case None e o' e' = absurd (omega (arith, less, got_none (nodes_in g at) (suc i) e, got_some (nodes_in g at) p n got))
      by_case (Some z) e None e' = absurd (no_none (sym e' ∙ (next_there (cases_lt (suc i) p)).1))
        where
          no_none : {x : ℕ} → None ≡ Some x → ⊥
          no_none r = cc
      by_case (Some z) e (Some z') e' =
          subst (λ (o : Option ℕ). Chooses retiring number o (slice_get (nodes_in g' at) (suc i)) (blocks_after g at) (blocks_after g' at)) (sym e)
          (subst (λ (o : Option ℕ). Chooses retiring number (Some z) o (blocks_after g at) (blocks_after g' at)) (sym e') (behind_both z z'))

  front_turn : (i : ℕ) → i < p → {d d' : Delivered} → HeldBut ops nd.cont d d' → Turn retiring rank at i at i d d'
  front_turn i less {d} {d'} h = by_case (slice_get (nodes_in g at) i) refl
    where
      by_case : (o : Option ℕ) → slice_get (nodes_in g at) i ≡ o → Turn retiring rank at i at i d d'
      by_case None e = absurd (omega (arith, less, got_none (nodes_in g at) i e, got_some (nodes_in g at) p n got))
      by_case (Some m) e =
          let v = node_live g w at m (got_has (nodes_in g at) i m e) in
          other_node at i at i m v.0 e (before_it i less ∙ e) v.1 (elsewhere_in m i e (λ q. omega (arith, q, less))) (up_to_it i (omega (arith, less))) (up_to_it (suc i) less) (front_choosing i less) h

  -- the node itself: it runs before, and doesn't after
  own_turn : {d d' : Delivered} → HeldBut ops nd.cont d d' → Turn retiring rank at p at p d d'
  own_turn {d} {d'} h = lags (record {
    block = at;
    index = suc p;
    spot = behind_it p (omega arith);
    moves = λ start us born f ws s.
        let r = idle nd is start (activation_at number at p d us born f) ws s got in (
          delivered_to nd.cont r.0 (without_all ops d),
          record { others = λ j x z. delivered_other nd.cont r.0 (without_all ops d) j z ∙ (left_over ops d j ∙ (ap (λ (t : Bool). if t then None else d j) x ∙ h.others j x z)) },
          ap (λ (o : Option Node). runs_at g start o (activation_at number at p d us born f) ws s) (ap (named g.node) got ∙ is) ∙ r.1,
        );
    falls = omega arith;
  })

  back_turn : (i : ℕ) → p ≤ i → {d d' : Delivered} → HeldBut ops nd.cont d d' → Turn retiring rank at (suc i) at i d d'
  back_turn i le {d} {d'} h = by_case (slice_get (nodes_in g at) (suc i)) refl
    where
      choosing : Choosing at (suc i) at i
      choosing =
          subst (λ (o : Option ℕ). Chooses retiring number (slice_get (nodes_in g at) (suc (suc i))) o (blocks_after g at) (blocks_after g' at)) (sym (after_it (suc i) (omega (arith, le))))
          (subst (λ (bs : List ℕ). Chooses retiring number (slice_get (nodes_in g at) (suc (suc i))) (slice_get (nodes_in g at) (suc (suc i))) (blocks_after g at) bs) (sym (after_same at))
          (chooses_same retiring number (slice_get (nodes_in g at) (suc (suc i))) (blocks_after g at) (all_begin (blocks_after g at))))

      by_case : (o : Option ℕ) → slice_get (nodes_in g at) (suc i) ≡ o → Turn retiring rank at (suc i) at i d d'
      by_case None e = ends (ap (named g.node) e) (ap (named other_nodes) (after_it i le ∙ e)) (behind_it i le) h (sym (after_same at)) (all_begin (blocks_after g at))
      by_case (Some m) e =
          let v = node_live g w at m (got_has (nodes_in g at) (suc i) m e) in
          other_node at (suc i) at i m v.0 e (after_it i le ∙ e) v.1 (elsewhere_in m (suc i) e (λ q. omega (arith, q, le))) (behind_it i le) (behind_it (suc i) (omega (arith, le))) choosing h

  pub retiring_turn : {b i b' i' : ℕ} {d d' : Delivered} → Closer at p b i b' i' → HeldBut ops nd.cont d d' → Turn retiring rank b i b' i' d d'
  retiring_turn (in_other b i other) h = other_turn b i other h
  retiring_turn {d = d} {d' = d'} (up_to_it i le) h = by_case (cases_lt i p)
    where
      by_case : (i < p) ⊎ (p ≤ i) → Turn retiring rank at i at i d d'
      by_case (inl less) = front_turn i less h
      by_case (inr no_less) = subst (λ (x : ℕ). Turn retiring rank at x at x d d') {x = p} {y = i} (omega (arith, le, no_less)) (own_turn h)
  retiring_turn (behind_it i le) h = back_turn i le h

module _ (free : GraphsAreNeverFull) (heap : List Object) (symbols : List Symbol) (g : FlowGraph) (n : ℕ) (nd : Node) (p : ℕ) (w : IsWhole g) (is : g.node n ≡ Some nd) (got : slice_get (nodes_in g nd.block) p ≡ Some n)
    (unused : (k : ℕ) → has_number k (listed nd.cont) ≡ true → dest_of g k ≡ []) (y : ℕ) (more : slice_get (nodes_in g nd.block) (suc p) ≡ Some y) (idle : HasNoEffect g n) where
  abbrev result : FlowGraph
  result = without_node n g

  both_among : (prelude : ℕ) (before behind : List FlowGraph) (bytes stack : ℕ) →
      Keeps bytes stack (graphs_together heap symbols prelude (before ++ g ∷ behind)) (graphs_together heap symbols prelude (before ++ result ∷ behind))
      × Keeps bytes stack (graphs_together heap symbols prelude (before ++ result ∷ behind)) (graphs_together heap symbols prelude (before ++ g ∷ behind))
  both_among prelude before behind bytes stack =
      both_keep free heap symbols (retiring (length before) g n nd p w is got unused y more idle) (rank (length before) g n nd p w is got unused y more idle) prelude before behind refl (λ m m'. Unit {0})
      (record {
        turn = λ us born f ws ws' s sure spot held. retiring_turn (length before) g n nd p w is got unused y more idle spot held;
        both_sure = λ m m' u. tt;
        one_sure = λ m m' u. tt;
      })
      (λ i. tt) bytes stack

  retired_means : MeansTheSame heap symbols g result
  retired_means = (λ prelude before behind bytes stack. (both_among prelude before behind bytes stack).0, λ prelude before behind bytes stack. (both_among prelude before behind bytes stack).1)

-- none of these continuations is taken
none_taken : (g : FlowGraph) (ks : List ℕ) → are_taken g ks ≡ false → (k : ℕ) → has_number k ks ≡ true → dest_of g k ≡ []
none_taken g [] h k has = cc
none_taken g (x ∷ xs) h k has = by_case (x == k) refl has (none_taken g xs parts.1 k)
  where
    parts : (not (is_empty (dest_of g x)) ≡ false) × (are_taken g xs ≡ false)
    parts = neither (not (is_empty (dest_of g x))) (are_taken g xs) h

    empty : (ns : List ℕ) → not (is_empty ns) ≡ false → ns ≡ []
    empty [] e = refl
    empty (z ∷ zs) e = cc

    by_case : (t : Bool) → (x == k) ≡ t → (t || has_number k xs) ≡ true → (has_number k xs ≡ true → dest_of g k ≡ []) → dest_of g k ≡ []
    by_case true e q ih = subst (λ (z : ℕ). dest_of g z ≡ []) (eqb-true x k e) (empty (dest_of g x) parts.0)
    by_case false e q ih = ih q

pub retiring_kept_same : GraphsAreNeverFull → RetiringKept
retiring_kept_same free heap symbols g n w no_fault idle = by_node (g.node n) refl
  where
    is_there : is_node g n ≡ true
    is_there = true_of (is_node g n) (passed (not (is_node g n)) _ _ no_fault).0

    parts : (are_taken g (cont_of g n) ≡ false) × (is_last_in g n (block_of g n) ≡ false)
    parts = neither (are_taken g (cont_of g n)) (is_last_in g n (block_of g n)) (passed (are_taken g (cont_of g n) || is_last_in g n (block_of g n)) _ _ (passed (not (is_node g n)) _ _ no_fault).1).0

    by_node : (o : Option Node) → g.node n ≡ o → MeansTheSame heap symbols g (without_node n g)
    by_node None e = impossible (sym (ap is_some e) ∙ is_there)
    by_node (Some nd) e =
        let in_it : has_number n (nodes_in g nd.block) ≡ true = sym (w.places n nd.block) ∙ (ap (λ (o : Option Node). has_number nd.block (numbers_of (λ x. x.block ∷ []) o)) e ∙ has_one nd.block) in
        let place = has_got n (nodes_in g nd.block) in_it in
        let last : is_empty (behind n (nodes_in g nd.block)) ≡ false = (neither (is_empty (behind n (nodes_in g nd.block))) false (subst (λ (bs : List ℕ). is_last_in g n bs ≡ false) (ap (numbers_of (λ x. x.block ∷ [])) e) parts.1)).0 in
        let next = some_first (behind n (nodes_in g nd.block)) last in
        retired_means free heap symbols g n nd place.0 w e place.1
        (none_taken g (listed nd.cont) (subst (λ (ks : List ℕ). are_taken g ks ≡ false) (ap (numbers_of (λ x. listed x.cont)) e) parts.0))
        next.0 (next_behind n (nodes_in g nd.block) place.0 (w.distinct nd.block) place.1 ∙ next.1) idle
