-- A block that may be deleted is never reached, and its deletion keeps the meaning of a graph.
use Rattle.std.proofs.Common.{◌≡◌, ◌≢◌, ◌⊎◌, inl, inr, refl, ap, sym, subst, ◌∙◌, ℕ, Bool, true, false, ◌||◌, ◌==◌, if◌then◌else◌, eq-eqb, ne_eqb, List, [], ◌∷◌, ◌++◌, length, Option, Some, None, option_map}
use Rattle.std.specs.Prelude.{slice_get}
use Rattle.std.proofs.lemmas.Bool.{cases_eq, eqb-false}
use Rattle.layers.specs.Input.{Input}
use Rattle.layers.specs.Layer.{after as steps_after}
use Rattle.layers.specs.Keeping.{Keeps}
use Rattle.core_form.specs.State.{Symbol, Object, State}
use Rattle.core_form.specs.Force.{Vals}
use Rattle.ir_ids.specs.Entries.{with_entry}
use Rattle.icr_graph.specs.declared.nodes.NodeKind.{NodeKind}
use Rattle.icr_graph.specs.declared.nodes.NodeKind.TheVariants as kind
use Rattle.icr_graph.specs.declared.nodes.Leaving.{Leaving as Way}
use Rattle.icr_graph.specs.declared.nodes.Node.{Node}
use Rattle.icr_graph.specs.declared.parts.Cont.{Cont}
use Rattle.icr_graph.specs.declared.parts.Block.{Block}
use Rattle.icr_graph.specs.Lists.{has_number, without, other_than, listed, numbers_of, each}
use Rattle.icr_graph.specs.Kinds.{operands_of, arrivals_of, entry_left, apart_from}
use Rattle.icr_graph.specs.Plain.{FlowGraph, nodes_in, blocks_after, entry_left_at}
use Rattle.icr_graph.specs.Whole.{IsWhole}
use Rattle.icr_graph.specs.Edits.{alone, not_taken_by, not_used_by, not_holding, no_arrival_of, without_node, without_nodes, not_beside, without_block, deleted}
use Rattle.icr_graph.proofs.Touched.{without_none, other_than_none}
use Rattle.icr_graph.proofs.Regrouped.{one_block}
use Rattle.graph_meaning.specs.Machine.{Delivered, Activation, Waiting, Machine}
use Rattle.graph_meaning.specs.Reading.{assertions_on, named, variable_of_entry, variable_left}
use Rattle.graph_meaning.specs.Effects.{box_before}
use Rattle.graph_meaning.specs.Running.{acts, step}
use Rattle.graph_meaning.specs.AsLayer.{first_machine, graphs_together}
use Rattle.graph_meaning.specs.Laws.{GraphsAreNeverFull}
use Rattle.graph_edits.specs.Laws.{AtEachMoment, MeansTheSame, AreCutOff, CutOffUnreached, LeavesNone, DeletionKept, DeletionByShapeKept}
use Rattle.graph_edits.proofs.Alike.{Edit, with_others}
use Rattle.graph_edits.proofs.Steps.{got_has}
use Rattle.graph_edits.proofs.Along.{Turn}
use Rattle.graph_edits.proofs.Without.{same_operands, same_boxes, same_extent}
use Rattle.graph_edits.proofs.Kept.{each_alike, both_keep}
use Rattle.graph_edits.proofs.Blocks.{node_live}
use Rattle.graph_edits.proofs.Substitution.{Reached, reaches_next}
use Rattle.graph_edits.proofs.Outside.{Outside, outside, deletable_cut_off, IsSameKind, around, no_rank, ReadsTheSame, end_turn, node_turn, away}

-- ---- no run comes to a block that is cut off

module _ (g : FlowGraph) (cut : ℕ → Bool) (w : IsWhole g) (off : AreCutOff g cut) (number : ℕ) where
  abbrev pub itself : Edit
  itself = around number g cut off g.node g.cont g.block

  abbrev pub itself_rank : ℕ → ℕ → ℕ
  itself_rank = no_rank number g cut off g.node g.cont g.block

  reads_itself : ReadsTheSame number g cut off g.node g.cont g.block
  reads_itself = record { same_nodes = λ c other. refl; same_after = λ c other. refl; same_assertions = λ k. refl }

  same_itself : (nd : Node) → IsSameKind g g nd nd.kind
  same_itself nd = record { operands = refl; arrivals = refl; boxes = λ vs. refl; does = λ start d a ws s. refl; left = λ entry e. refl }

  itself_turn : {c i c' i' : ℕ} {d d' : Delivered} → Outside cut c i c' i' → d ≡ d' → Turn itself itself_rank c i c' i' d d'
  itself_turn {d = d} {d' = d'} (outside c i other) e = by_case (slice_get (nodes_in g c) i) refl
    where
      by_case : (o : Option ℕ) → slice_get (nodes_in g c) i ≡ o → Turn itself itself_rank c i c i d d'
      by_case None got = end_turn number g cut off g.node g.cont g.block reads_itself c i other e got
      by_case (Some m) got =
          let nd = node_live g w c m (got_has (nodes_in g c) i m got) in
          node_turn number g cut off g.node g.cont g.block reads_itself c i other e m nd.0 nd.0.kind nd.0.block got nd.1 nd.1 (same_itself nd.0)

pub unreached_same : GraphsAreNeverFull → CutOffUnreached
unreached_same free heap symbols g cut w off prelude before behind input k =
    let al = each_alike free heap symbols (itself g cut w off (length before)) (itself_rank g cut w off (length before)) prelude before behind refl (λ m m'. Unit {0})
    (record {
      turn = λ us born f ws ws' s sure spot held. itself_turn g cut w off (length before) spot held;
      both_sure = λ m m' u. tt;
      one_sure = λ m m' u. tt;
    })
    (λ i. tt) 0 0 input k in
    away (length before) g cut off g.node g.cont g.block al.1

-- ---- kinds without partners

abbrev apart_from_all : List ℕ → NodeKind → NodeKind
apart_from_all [] k = k
apart_from_all (n ∷ ns) k = apart_from_all ns (apart_from n k)

abbrev alone_of_all : List ℕ → Node → Node
alone_of_all ns nd = record nd { kind = apart_from_all ns nd.kind }

all_operands : (ns : List ℕ) (k : NodeKind) → operands_of (apart_from_all ns k) ≡ operands_of k
all_operands [] k = refl
all_operands (n ∷ ns) k = all_operands ns (apart_from n k) ∙ same_operands n k

all_boxes : (ns : List ℕ) (k : NodeKind) (vs : Vals) → box_before k vs ≡ box_before (apart_from_all ns k) vs
all_boxes [] k vs = refl
all_boxes (n ∷ ns) k vs = same_boxes n k vs ∙ all_boxes ns (apart_from n k) vs

all_extent : (ns : List ℕ) (k : NodeKind) (nd : Node) → variable_of_entry (Some (record nd { kind = k })) ≡ variable_of_entry (Some (record nd { kind = apart_from_all ns k }))
all_extent [] k nd = refl
all_extent (n ∷ ns) k nd = same_extent n k nd ∙ all_extent ns (apart_from n k) nd

-- a kind that names no partner stays
stays_by : (k : NodeKind) → ((n : ℕ) → apart_from n k ≡ k) → (ns : List ℕ) → apart_from_all ns k ≡ k
stays_by k same [] = refl
stays_by k same (n ∷ ns) = ap (apart_from_all ns) (same n) ∙ stays_by k same ns

-- an exit stays that names none of these
exit_stays : (y : Way) (entry : Option ℕ) (ns : List ℕ) → ((e : ℕ) → has_number e (listed entry) ≡ true → has_number e ns ≢ true) → apart_from_all ns (kind.Exit y entry) ≡ kind.Exit y entry
exit_stays y entry [] apart = refl
exit_stays y entry (n ∷ ns) apart =
    ap (λ (o : Option ℕ). apart_from_all ns (kind.Exit y o)) (other_than_none n entry (not_listed (has_number n (listed entry)) refl))
    ∙ exit_stays y entry ns (λ e has there. apart e has (rw there (or_true (n == e))))
  where
    or_true : (t : Bool) → (t || true) ≡ true
    or_true true = refl
    or_true false = refl

    not_listed : (t : Bool) → has_number n (listed entry) ≡ t → t ≡ false
    not_listed true h = absurd (apart n h (rw (eq-eqb n n refl) refl))
    not_listed false h = refl

-- what a kind names without partners, it names
named_before : (xs : List ℕ) (k : NodeKind) (j : ℕ) → has_number j (entry_left (apart_from_all xs k)) ≡ true → has_number j (entry_left k) ≡ true
named_before [] k j h = h
named_before (n ∷ xs) k j h = by_kind k (named_before xs (apart_from n k) j h)
  where
    by_entry : (o : Option ℕ) → has_number j (listed (other_than n o)) ≡ true → has_number j (listed o) ≡ true
    by_entry None q = q
    by_entry (Some m) q = by_test (m == n) q
      where
        by_test : (t : Bool) → has_number j (listed (if t then None else Some m)) ≡ true → has_number j (m ∷ []) ≡ true
        by_test true r = cc
        by_test false r = r

    by_kind : (k : NodeKind) → has_number j (entry_left (apart_from n k)) ≡ true → has_number j (entry_left k) ≡ true
    by_kind (kind.Ref l) q = q
    by_kind (kind.Set x value) q = q
    by_kind (kind.If test) q = q
    by_kind (kind.Combination op ks) q = q
    by_kind (kind.MvCombination f ks tail) q = q
    by_kind (kind.Bind x value) q = q
    by_kind (kind.Return value) q = q
    by_kind (kind.Entry x exits) q = q
    by_kind (kind.Exit y entry) q = by_entry entry q

entry_stays : (x : _) (exits ns : List ℕ) → (xs : List ℕ) × (apart_from_all ns (kind.Entry x exits) ≡ kind.Entry x xs)
entry_stays x exits [] = (exits, refl)
entry_stays x exits (n ∷ ns) = entry_stays x (without n exits) ns

module _ (ns : List ℕ) (g : FlowGraph) (start : ℕ) (nd : Node) (d : Delivered) (a : Activation) (ws : List Waiting) (s : State) where
  abbrev DoesTheSame : NodeKind → Type 0
  DoesTheSame k = acts g start nd d a ws k s ≡ acts g start nd d a ws (apart_from_all ns k) s

  does_by : (k : NodeKind) → apart_from_all ns k ≡ k → DoesTheSame k
  does_by k e = ap (λ (y : NodeKind). acts g start nd d a ws y s) (sym e)

  does_all : (k : NodeKind) → ((e : ℕ) → has_number e (entry_left k) ≡ true → has_number e ns ≢ true) → DoesTheSame k
  does_all (kind.Ref l) apart = does_by _ (stays_by _ (λ n. refl) ns)
  does_all (kind.Set x value) apart = does_by _ (stays_by _ (λ n. refl) ns)
  does_all (kind.If test) apart = does_by _ (stays_by _ (λ n. refl) ns)
  does_all (kind.Combination op ks) apart = does_by _ (stays_by _ (λ n. refl) ns)
  does_all (kind.MvCombination f ks tail) apart = does_by _ (stays_by _ (λ n. refl) ns)
  does_all (kind.Bind x value) apart = does_by _ (stays_by _ (λ n. refl) ns)
  does_all (kind.Return value) apart = does_by _ (stays_by _ (λ n. refl) ns)
  does_all (kind.Entry x exits) apart = let e = entry_stays x exits ns in ap (λ (y : NodeKind). acts g start nd d a ws y s) {x = kind.Entry x e.0} (sym e.1)
  does_all (kind.Exit y entry) apart = does_by _ (exit_stays y entry ns apart)

-- ---- a graph without nodes

nodes_left : (ns : List ℕ) (g : FlowGraph) (m : ℕ) → has_number m ns ≡ false → (without_nodes ns g).node m ≡ option_map (alone_of_all ns) (g.node m)
nodes_left [] g m none = by_case (g.node m)
  where
    by_case : (o : Option Node) → o ≡ option_map (alone_of_all []) o
    by_case None = refl
    by_case (Some nd) = refl
nodes_left (n ∷ ns) g m none = by_case (cases_eq n m) none (nodes_left ns (without_node n g) m)
  where
    twice : (o : Option Node) → option_map (alone_of_all ns) (option_map (alone n) o) ≡ option_map (alone_of_all (n ∷ ns)) o
    twice None = refl
    twice (Some nd) = refl

    by_case : (n ≡ m) ⊎ (n ≢ m) → ((n == m) || has_number m ns) ≡ false → (has_number m ns ≡ false → (without_nodes ns (without_node n g)).node m ≡ option_map (alone_of_all ns) ((without_node n g).node m)) → (without_nodes (n ∷ ns) g).node m ≡ option_map (alone_of_all (n ∷ ns)) (g.node m)
    by_case (inl e) q ih = absurd_of (rw (eq-eqb n m e) at q)
      where
        absurd_of : true ≡ false → (without_nodes (n ∷ ns) g).node m ≡ option_map (alone_of_all (n ∷ ns)) (g.node m)
        absurd_of r = cc
    by_case (inr other) q ih =
        ih (rw (ne_eqb n m other) at q)
        ∙ (ap (λ (t : Bool). option_map (alone_of_all ns) (if t then None else option_map (alone n) (g.node m))) (ne_eqb m n (λ e. other (sym e))) ∙ twice (g.node m))

nodes_kept : (ns : List ℕ) (g : FlowGraph) (c : ℕ) → ((n : ℕ) → has_number n ns ≡ true → has_number n (nodes_in g c) ≡ false) → nodes_in (without_nodes ns g) c ≡ nodes_in g c
nodes_kept [] g c apart = refl
nodes_kept (n ∷ ns) g c apart =
    nodes_kept ns (without_node n g) c (λ m has. ap (has_number m) one_less ∙ apart m (rw has (or_true (n == m)))) ∙ one_less
  where
    or_true : (t : Bool) → (t || true) ≡ true
    or_true true = refl
    or_true false = refl

    by_block : (o : Option Block) → numbers_of (λ x. x.nodes) (option_map (not_holding n) (option_map (no_arrival_of n) o)) ≡ without n (numbers_of (λ x. x.nodes) o)
    by_block None = refl
    by_block (Some v) = refl

    one_less : nodes_in (without_node n g) c ≡ nodes_in g c
    one_less = by_block (g.block c) ∙ without_none n (nodes_in g c) (apart n (rw (eq-eqb n n refl) refl))

after_kept : (ns : List ℕ) (g : FlowGraph) (c : ℕ) → blocks_after (without_nodes ns g) c ≡ blocks_after g c
after_kept [] g c = refl
after_kept (n ∷ ns) g c = after_kept ns (without_node n g) c ∙ by_block (g.block c)
  where
    by_block : (o : Option Block) → numbers_of (λ x. x.after) (option_map (not_holding n) (option_map (no_arrival_of n) o)) ≡ numbers_of (λ x. x.after) o
    by_block None = refl
    by_block (Some v) = refl

assertions_kept : (ns : List ℕ) (g : FlowGraph) (k : ℕ) → assertions_on (g.cont k) ≡ assertions_on ((without_nodes ns g).cont k)
assertions_kept [] g k = refl
assertions_kept (n ∷ ns) g k = by_cont (g.cont k) ∙ assertions_kept ns (without_node n g) k
  where
    by_cont : (o : Option Cont) → assertions_on o ≡ assertions_on (option_map (not_used_by n) (option_map (not_taken_by n) o))
    by_cont None = refl
    by_cont (Some c) = refl

-- nothing else changes
all_else : (ns : List ℕ) (g : FlowGraph) → with_others g (without_nodes ns g).node (without_nodes ns g).cont (without_nodes ns g).block ≡ without_nodes ns g
all_else [] g = refl
all_else (n ∷ ns) g = all_else ns (without_node n g)

-- ---- the graph without the block

module _ (g : FlowGraph) (b : ℕ) (w : IsWhole g) (off : AreCutOff g (λ c. c == b)) (number : ℕ) where
  abbrev pub is_it : ℕ → Bool
  is_it c = c == b

  abbrev ns : List ℕ
  ns = nodes_in g b

  abbrev other_nodes : ℕ → Option Node
  other_nodes = (without_nodes ns g).node

  abbrev other_conts : ℕ → Option Cont
  other_conts = (without_nodes ns g).cont

  abbrev other_blocks : ℕ → Option Block
  other_blocks = with_entry (each (not_beside b) (without_nodes ns g).block) b None

  abbrev g' : FlowGraph
  g' = with_others g other_nodes other_conts other_blocks

  -- a node of another block isn't one of the block
  in_no_other : (c : ℕ) → c ≢ b → (n : ℕ) → has_number n ns ≡ true → has_number n (nodes_in g c) ≡ false
  in_no_other c other n has = sym (w.places n c) ∙ one_block b c other (g.node n) (w.places n b ∙ has)

  -- a node of another block stays
  not_gone : (c m : ℕ) → c ≢ b → has_number m (nodes_in g c) ≡ true → has_number m ns ≡ false
  not_gone c m other has = by_case (has_number m ns) refl
    where
      by_case : (t : Bool) → has_number m ns ≡ t → t ≡ false
      by_case true h = absurd_of (sym (in_no_other c other m h) ∙ has)
        where
          absurd_of : false ≡ true → true ≡ false
          absurd_of q = cc
      by_case false h = refl

  reads_same : ReadsTheSame number g is_it off other_nodes other_conts other_blocks
  reads_same = record {
    same_nodes = λ c other. rw other (by_nodes ((without_nodes ns g).block c)) ∙ nodes_kept ns g c (in_no_other c (eqb-false c b other));
    same_after = λ c other. rw other (by_after ((without_nodes ns g).block c)) ∙ (ap (without b) (after_kept ns g c) ∙ without_none b (blocks_after g c) (off.edges c other));
    same_assertions = assertions_kept ns g;
  }
    where
      by_nodes : (o : Option Block) → numbers_of (λ x. x.nodes) (option_map (not_beside b) o) ≡ numbers_of (λ x. x.nodes) o
      by_nodes None = refl
      by_nodes (Some v) = refl

      by_after : (o : Option Block) → numbers_of (λ x. x.after) (option_map (not_beside b) o) ≡ without b (numbers_of (λ x. x.after) o)
      by_after None = refl
      by_after (Some v) = refl

  arrivals_all : (xs : List ℕ) (k : NodeKind) → arrivals_of (apart_from_all xs k) ≡ arrivals_of k
  arrivals_all [] k = refl
  arrivals_all (n ∷ xs) k = arrivals_all xs (apart_from n k) ∙ one k
    where
      one : (k : NodeKind) → arrivals_of (apart_from n k) ≡ arrivals_of k
      one (kind.Ref l) = refl
      one (kind.Set x value) = refl
      one (kind.If test) = refl
      one (kind.Combination op ks) = refl
      one (kind.MvCombination f ks tail) = refl
      one (kind.Bind x value) = refl
      one (kind.Return value) = refl
      one (kind.Entry x exits) = refl
      one (kind.Exit y entry) = refl

  -- what exits leave that name none of the nodes
  left_kept : (entry : Option ℕ) → ((e : ℕ) → has_number e (listed entry) ≡ true → has_number e ns ≢ true) → variable_left g entry ≡ variable_left g' entry
  left_kept None apart = refl
  left_kept (Some m) apart = ap (λ (o : Option ℕ). named g.variable o) (by_case (has_number m ns) refl)
    where
      same_one : (o : Option Node) → variable_of_entry o ≡ variable_of_entry (option_map (alone_of_all ns) o)
      same_one None = refl
      same_one (Some nd) = all_extent ns nd.kind nd

      by_case : (t : Bool) → has_number m ns ≡ t → variable_of_entry (g.node m) ≡ variable_of_entry (other_nodes m)
      by_case true h = absurd (apart m (rw (eq-eqb m m refl) refl) h)
      by_case false h = same_one (g.node m) ∙ ap variable_of_entry (sym (nodes_left ns g m h))

  same_kind : (nd : Node) → ((e : ℕ) → has_number e (entry_left nd.kind) ≡ true → has_number e ns ≢ true) → IsSameKind g g' nd (apart_from_all ns nd.kind)
  same_kind nd apart = record {
    operands = all_operands ns nd.kind;
    arrivals = arrivals_all ns nd.kind;
    boxes = all_boxes ns nd.kind;
    does = λ start d a ws s. does_all ns g start nd d a ws s nd.kind apart;
    left = λ entry e. left_kept entry (λ j has. left_by j (ap (has_number j) (sym e) ∙ has));
  }
    where
      left_by : (j : ℕ) → has_number j (entry_left (apart_from_all ns nd.kind)) ≡ true → has_number j ns ≢ true
      left_by j h = apart j (named_before ns nd.kind j h)

  pub deleting_turn : {c i c' i' : ℕ} {d d' : Delivered} → Outside is_it c i c' i' → d ≡ d' →
      ((n e : ℕ) → slice_get (nodes_in g c) i ≡ Some n → has_number e (entry_left_at g n) ≡ true → has_number e ns ≢ true) →
      Turn (around number g is_it off other_nodes other_conts other_blocks) (no_rank number g is_it off other_nodes other_conts other_blocks) c i c' i' d d'
  deleting_turn {d = d} {d' = d'} (outside c i other) e apart = by_case (slice_get (nodes_in g c) i) refl
    where
      by_case : (o : Option ℕ) → slice_get (nodes_in g c) i ≡ o → Turn (around number g is_it off other_nodes other_conts other_blocks) (no_rank number g is_it off other_nodes other_conts other_blocks) c i c i d d'
      by_case None got = end_turn number g is_it off other_nodes other_conts other_blocks reads_same c i other e got
      by_case (Some m) got =
          let nd = node_live g w c m (got_has (nodes_in g c) i m got) in
          let names = ap (λ (o : Option Node). numbers_of (λ x. entry_left x.kind) o) (sym nd.1) in
          node_turn number g is_it off other_nodes other_conts other_blocks reads_same c i other e m nd.0 (apart_from_all ns nd.0.kind) nd.0.block got nd.1
          (nodes_left ns g m (not_gone c m (eqb-false c b other) (got_has (nodes_in g c) i m got)) ∙ ap (option_map (alone_of_all ns)) nd.1)
          (same_kind nd.0 (λ j has. apart m j got (ap (has_number j) (sym names) ∙ has)))

module _ (free : GraphsAreNeverFull) (heap : List Object) (symbols : List Symbol) (g : FlowGraph) (b : ℕ) (w : IsWhole g) (off : AreCutOff g (λ c. c == b)) (quiet : AtEachMoment heap symbols g (λ number m. LeavesNone g number (nodes_in g b) m)) where
  abbrev nodes_after : ℕ → Option Node
  nodes_after = (without_nodes (nodes_in g b) g).node

  abbrev conts_after : ℕ → Option Cont
  conts_after = (without_nodes (nodes_in g b) g).cont

  abbrev blocks_left : ℕ → Option Block
  blocks_left = with_entry (each (not_beside b) (without_nodes (nodes_in g b) g).block) b None

  abbrev result : FlowGraph
  result = with_others g nodes_after conts_after blocks_left

  module _ (prelude : ℕ) (before behind : List FlowGraph) where
    abbrev first_list : List FlowGraph
    first_list = before ++ g ∷ behind

    abbrev second_list : List FlowGraph
    second_list = before ++ result ∷ behind

    both_among : (bytes stack : ℕ) →
        Keeps bytes stack (graphs_together heap symbols prelude first_list) (graphs_together heap symbols prelude second_list)
        × Keeps bytes stack (graphs_together heap symbols prelude second_list) (graphs_together heap symbols prelude first_list)
    both_among bytes stack =
        both_keep free heap symbols (around (length before) g (λ c. c == b) off nodes_after conts_after blocks_left) (no_rank (length before) g (λ c. c == b) off nodes_after conts_after blocks_left) prelude before behind refl
        (λ m m'. Reached heap symbols prelude first_list m)
        (record {
          turn = λ us born f ws ws' s sure spot held.
              deleting_turn g b w off (length before) spot held
              (subst (λ (m : Machine). LeavesNone g (length before) (nodes_in g b) m) sure.2 (quiet prelude before behind sure.0 sure.1) refl refl);
          both_sure = λ m m' r. reaches_next heap symbols prelude first_list m r;
          one_sure = λ m m' r. reaches_next heap symbols prelude first_list m r;
        })
        (λ i. (i, 0, refl)) bytes stack

  result_means : MeansTheSame heap symbols g result
  result_means = (λ prelude before behind bytes stack. (both_among prelude before behind bytes stack).0, λ prelude before behind bytes stack. (both_among prelude before behind bytes stack).1)

  deleted_means : MeansTheSame heap symbols g (deleted b g)
  deleted_means = subst (λ (h : FlowGraph). MeansTheSame heap symbols g h) (ap (without_block b) (all_else (nodes_in g b) g)) result_means

pub deletion_kept_same : GraphsAreNeverFull → DeletionKept
deletion_kept_same free heap symbols g b w h quiet = deleted_means free heap symbols g b w (deletable_cut_off g b w h) quiet

pub deletion_by_shape_same : GraphsAreNeverFull → DeletionByShapeKept
deletion_by_shape_same free heap symbols g b cut w h off inside =
    deletion_kept_same free heap symbols g b w h (λ prelude before behind input k going here n e got leaves there.
    both_ways (unreached_same free heap symbols g cut w off prelude before behind input k going here)
    (inside (machine prelude before behind input k).here.block n e (got_has (nodes_in g (machine prelude before behind input k).here.block) (machine prelude before behind input k).here.index n got) leaves there))
  where
    machine : (prelude : ℕ) (before behind : List FlowGraph) (input : Input) (k : ℕ) → Machine
    machine prelude before behind input k = steps_after (step symbols (before ++ g ∷ behind)) k (first_machine heap symbols prelude (before ++ g ∷ behind) input.letters)

    both_ways : {t : Bool} → t ≡ false → t ≡ true → ⊥
    both_ways e q = cc
