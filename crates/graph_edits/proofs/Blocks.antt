-- A split and a join keep the meaning of a graph.
use Rattle.std.proofs.Common.{◌≡◌, ◌≢◌, refl, ap, sym, subst, ◌∙◌, ℕ, suc, Bool, true, false, not, ◌&&◌, ◌||◌, ◌==◌, if◌then◌else◌, ne_eqb, List, [], ◌∷◌, ◌++◌, length, Option, Some, None, option_map, is_some}
use Rattle.std.specs.Prelude.{slice_get}
use Rattle.std.specs.List.{list_all}
use Rattle.std.proofs.lemmas.Option.{same_Some}
use Rattle.layers.specs.Keeping.{Keeps}
use Rattle.core_form.specs.State.{Symbol, Object}
use Rattle.icr_graph.specs.declared.nodes.Node.{Node}
use Rattle.icr_graph.specs.declared.parts.Block.{Block}
use Rattle.icr_graph.specs.declared.parts.Function.{Function}
use Rattle.icr_graph.specs.Lists.{has_number, numbers_of, listed, behind, up_to}
use Rattle.icr_graph.specs.Kinds.{arrivals_of, is_if}
use Rattle.icr_graph.specs.Plain.{FlowGraph, nodes_in, blocks_after, arriving_at, entered_by, block_of}
use Rattle.icr_graph.specs.Whole.{IsWhole}
use Rattle.icr_graph.specs.Edits.{split, joined, behind_block, in_block, ending_at, going_on}
use Rattle.icr_graph.specs.Faults.{is_block, is_node, is_edge, is_empty, is_last_in}
use Rattle.icr_graph.specs.Splitting.{split_behind, have_other, ends_with_if, is_if_node, are_not_alone, join_fault}
use Rattle.icr_graph.proofs.Maps.{same_number}
use Rattle.icr_graph.proofs.Allowed.{passed}
use Rattle.icr_graph.proofs.Distinct.{neither}
use Rattle.icr_graph.proofs.Regrouped.{has_one, has_another}
use Rattle.icr_graph.proofs.Splits.{split_whole, placed_live}
use Rattle.icr_graph.proofs.Joins.{AreJoinable, join_allowed}
use Rattle.graph_meaning.specs.AsLayer.{graphs_together}
use Rattle.graph_meaning.specs.Laws.{GraphsAreNeverFull}
use Rattle.graph_edits.specs.Laws.{MeansTheSame, SplitKept, JoinKept}
use Rattle.graph_edits.proofs.Alike.{of_kind}
use Rattle.graph_edits.proofs.Reading.{last_passes}
use Rattle.graph_edits.proofs.AsOne.{AreOne, as_one, rank, one_turn}
use Rattle.graph_edits.proofs.Kept.{both_keep}

-- ---- two blocks that stand as one mean the same

module _ (free : GraphsAreNeverFull) (heap : List Object) (symbols : List Symbol) (g : FlowGraph) (nodes : ℕ → Option Node) (blocks : ℕ → Option Block) (first second : ℕ) (one : AreOne g nodes blocks first second) where
  abbrev other : FlowGraph
  other = record g { node = nodes; block = blocks }

  both_among : (prelude : ℕ) (before after : List FlowGraph) (bytes stack : ℕ) →
      Keeps bytes stack (graphs_together heap symbols prelude (before ++ g ∷ after)) (graphs_together heap symbols prelude (before ++ other ∷ after))
      × Keeps bytes stack (graphs_together heap symbols prelude (before ++ other ∷ after)) (graphs_together heap symbols prelude (before ++ g ∷ after))
  both_among prelude before after bytes stack =
      both_keep free heap symbols (as_one (length before) g nodes blocks first second one) (rank (length before) g nodes blocks first second one) prelude before after refl (λ m m'. Unit {0})
      (record {
        turn = λ us born f ws ws' s sure spot held. one_turn (length before) g nodes blocks first second one spot held;
        both_sure = λ m m' u. tt;
        one_sure = λ m m' u. tt;
      })
      (λ i. tt) bytes stack

  one_means : MeansTheSame heap symbols g other
  one_means = (λ prelude before after bytes stack. (both_among prelude before after bytes stack).0, λ prelude before after bytes stack. (both_among prelude before after bytes stack).1)

-- ---- whole graphs

-- a node of a block is there
pub node_live : (g : FlowGraph) → IsWhole g → (b m : ℕ) → has_number m (nodes_in g b) ≡ true → (nd : Node) × (g.node m ≡ Some nd)
node_live g w b m h = by_case (g.node m) refl (w.places m b ∙ h)
  where
    by_case : (o : Option Node) → g.node m ≡ o → has_number b (numbers_of (λ x. x.block ∷ []) (g.node m)) ≡ true → (nd : Node) × (g.node m ≡ Some nd)
    by_case None is e = absurd_of (rw is at e)
      where
        absurd_of : false ≡ true → (nd : Node) × (g.node m ≡ Some nd)
        absurd_of q = cc
    by_case (Some nd) is e = (nd, is)

-- nothing enters or arrives at a block of which nothing says so
pub none_entered : (g : FlowGraph) → IsWhole g → (b : ℕ) → entered_by g b ≡ [] → (j : ℕ) (f : Function) → g.function j ≡ Some f → has_number b f.entries ≡ false
none_entered g w b none j f is =
    ap (λ (o : Option Function). has_number b (numbers_of (λ x. x.entries) o)) (sym is) ∙ (w.entries j b ∙ ap (has_number j) none)

pub none_arrives : (g : FlowGraph) → IsWhole g → (b : ℕ) → arriving_at g b ≡ [] → (m : ℕ) (nd : Node) → g.node m ≡ Some nd → has_number b (arrivals_of nd.kind) ≡ false
none_arrives g w b none m nd is =
    ap (λ (o : Option Node). has_number b (numbers_of (λ x. arrivals_of x.kind) o)) (sym is) ∙ (w.arrivals m b ∙ ap (has_number m) none)

pub true_of : (t : Bool) → not t ≡ false → t ≡ true
true_of true h = refl
true_of false h = cc

pub impossible : {A : Type 0} → false ≡ true → A
impossible e = cc

-- ---- a join

all_one : (b : ℕ) (xs : List ℕ) → have_other b xs ≡ false → list_all (λ c. c == b) xs ≡ true
all_one b [] h = refl
all_one b (x ∷ xs) h = by_case (x == b) h (all_one b xs)
  where
    by_case : (t : Bool) → (not t || have_other b xs) ≡ false → (have_other b xs ≡ false → list_all (λ c. c == b) xs ≡ true) → (t && list_all (λ c. c == b) xs) ≡ true
    by_case true e ih = ih e
    by_case false e ih = cc

module _ (g : FlowGraph) (first second : ℕ) (w : IsWhole g) (h : join_fault g first second ≡ None) where
  j : AreJoinable g first second
  j = join_allowed g first second h

  linked : is_edge g first second ≡ true
  linked =
      let past = (passed (not (is_block g first && is_block g second)) _ _ h).1 in
      true_of (is_edge g first second) (passed (not (is_edge g first second)) _ _ past).0

  leaves : (have_other second (blocks_after g first) ≡ false) × (ends_with_if g first ≡ false)
  leaves =
      let past = (passed (not (is_block g first && is_block g second)) _ _ h).1 in
      let alone = (passed (are_not_alone g first second) _ _ (passed (not (is_edge g first second)) _ _ past).1).0 in
      neither (have_other second (blocks_after g first)) (ends_with_if g first) (neither (have_other second (blocks_after g first) || ends_with_if g first) _ alone).0

  join_other : (p : Block → List ℕ) → ((v : Block) → p (behind_block second first v) ≡ p v) → (x : ℕ) → x ≢ first → x ≢ second → numbers_of p ((joined first second g).block x) ≡ numbers_of p (g.block x)
  join_other p turn x not_first not_second = rw (ne_eqb x second not_second, ne_eqb x first not_first) (by_case (g.block x))
    where
      by_case : (o : Option Block) → numbers_of p (option_map (behind_block second first) o) ≡ numbers_of p o
      by_case None = refl
      by_case (Some v) = turn v

  join_first : (p : Block → List ℕ) (xs : List ℕ → List ℕ) → ((v : Block) → p (going_on (nodes_in g second) (blocks_after g second) (behind_block second first v)) ≡ xs (p v)) →
      numbers_of p ((joined first second g).block first) ≡ xs (numbers_of p (g.block first))
  join_first p xs goes = rw (ne_eqb first second j.apart, same_number first) (by_case (g.block first) j.live_first)
    where
      by_case : (o : Option Block) → is_some o ≡ true → numbers_of p (option_map (going_on (nodes_in g second) (blocks_after g second)) (option_map (behind_block second first) o)) ≡ xs (numbers_of p o)
      by_case None e = cc
      by_case (Some v) e = goes v

  join_kept : (m : ℕ) (nd : Node) → g.node m ≡ Some nd → (x : ℕ) × ((joined first second g).node m ≡ Some (of_kind nd.kind x nd))
  join_kept m nd is = by_case (has_number m (nodes_in g second)) refl
    where
      by_case : (t : Bool) → has_number m (nodes_in g second) ≡ t → (x : ℕ) × ((joined first second g).node m ≡ Some (of_kind nd.kind x nd))
      by_case true at = (first, rw (at, is) refl)
      by_case false at = (nd.block, rw at is)

  join_gone : (m : ℕ) → g.node m ≡ None → (joined first second g).node m ≡ None
  join_gone m is = by_case (has_number m (nodes_in g second)) refl
    where
      by_case : (t : Bool) → has_number m (nodes_in g second) ≡ t → (joined first second g).node m ≡ None
      by_case true at = rw (at, is) refl
      by_case false at = rw at is

  join_if_last : (i m : ℕ) (nd : Node) → slice_get (nodes_in g first) i ≡ Some m → suc i ≡ length (nodes_in g first) → g.node m ≡ Some nd → is_if nd.kind ≡ true → false ≡ true
  join_if_last i m nd got last is itself = sym (last_passes (λ n. is_if_node (g.node n)) (nodes_in g first) i m got last leaves.1) ∙ (ap is_if_node is ∙ itself)

  join_is_one : AreOne g (joined first second g).node (joined first second g).block first second
  join_is_one = record {
    apart = j.apart;
    kept = join_kept;
    gone = join_gone;
    live = node_live g w;
    nodes_first = join_first (λ x. x.nodes) (λ xs. xs ++ nodes_in g second) (λ v. refl);
    nodes_other = join_other (λ x. x.nodes) (λ v. refl);
    after_first = join_first (λ x. x.after) (λ xs. blocks_after g second) (λ v. refl);
    after_other = join_other (λ x. x.after) (λ v. refl);
    leads = linked;
    alone = all_one second (blocks_after g first) leaves.0;
    far = λ b other. w.edges b second ∙ j.before b other;
    entered = none_entered g w second j.entered;
    arrivals = none_arrives g w second j.arriving;
    if_last = λ i m nd got last is itself. impossible (join_if_last i m nd got last is itself);
  }

pub join_kept_same : GraphsAreNeverFull → JoinKept
join_kept_same free heap symbols g first second w h =
    one_means free heap symbols g (joined first second g).node (joined first second g).block first second (join_is_one g first second w h)

-- ---- a split

up_to_and_behind : (n : ℕ) (xs : List ℕ) → xs ≡ up_to n xs ++ behind n xs
up_to_and_behind n [] = refl
up_to_and_behind n (x ∷ xs) = by_case (x == n) (up_to_and_behind n xs)
  where
    by_case : (t : Bool) → xs ≡ up_to n xs ++ behind n xs → x ∷ xs ≡ (if t then x ∷ [] else x ∷ up_to n xs) ++ (if t then xs else behind n xs)
    by_case true ih = refl
    by_case false ih = ap (λ (ys : List ℕ). x ∷ ys) ih

pub some_first : (xs : List ℕ) → is_empty xs ≡ false → (y : ℕ) × (slice_get xs 0 ≡ Some y)
some_first [] h = cc
some_first (x ∷ xs) h = (x, refl)

module _ (g : FlowGraph) (n b new : ℕ) (w : IsWhole g) (live : is_block g b ≡ true) (vacant : g.block new ≡ None) (more : is_empty (behind n (nodes_in g b)) ≡ false) where
  abbrev h : FlowGraph
  h = split n b new g

  split_is_whole : IsWhole h
  split_is_whole = split_whole g n b new vacant live w

  split_apart : b ≢ new
  split_apart e = absurd_of (sym (ap is_some vacant) ∙ (ap (is_block g) (sym e) ∙ live))
    where
      absurd_of : false ≡ true → ⊥
      absurd_of q = cc

  split_new : (p : Block → List ℕ) → numbers_of p (h.block new) ≡ p (record { nodes = behind n (nodes_in g b); before = b ∷ []; after = blocks_after g b; arriving = []; entry_of = None })
  split_new p = rw (same_number new) refl

  split_other : (p : Block → List ℕ) → ((v : Block) → p (behind_block b new v) ≡ p v) → (x : ℕ) → x ≢ b → x ≢ new → numbers_of p (g.block x) ≡ numbers_of p (h.block x)
  split_other p turn x not_b not_new = rw (ne_eqb x new not_new, ne_eqb x b not_b) (by_case (g.block x))
    where
      by_case : (o : Option Block) → numbers_of p o ≡ numbers_of p (option_map (behind_block b new) o)
      by_case None = refl
      by_case (Some v) = sym (turn v)

  split_first : (p : Block → List ℕ) (xs : List ℕ → List ℕ) → ((v : Block) → p (ending_at n new (behind_block b new v)) ≡ xs (p v)) → numbers_of p (h.block b) ≡ xs (numbers_of p (g.block b))
  split_first p xs ends = rw (ne_eqb b new split_apart, same_number b) (by_case (g.block b) live)
    where
      by_case : (o : Option Block) → is_some o ≡ true → numbers_of p (option_map (ending_at n new) (option_map (behind_block b new) o)) ≡ xs (numbers_of p o)
      by_case None e = cc
      by_case (Some v) e = ends v

  split_nodes : nodes_in g b ≡ nodes_in h b ++ nodes_in h new
  split_nodes =
      up_to_and_behind n (nodes_in g b)
      ∙ (ap (λ (xs : List ℕ). xs ++ behind n (nodes_in g b)) (sym (split_first (λ x. x.nodes) (up_to n) (λ v. refl)))
      ∙ ap (λ (xs : List ℕ). nodes_in h b ++ xs) (sym (split_new (λ x. x.nodes))))

  split_after : blocks_after h b ≡ new ∷ []
  split_after = split_first (λ x. x.after) (λ xs. new ∷ []) (λ v. refl)

  -- a node lies in its old block again
  split_kept : (m : ℕ) (nd : Node) → h.node m ≡ Some nd → (x : ℕ) × (g.node m ≡ Some (of_kind nd.kind x nd))
  split_kept m nd is = by_case (has_number m (behind n (nodes_in g b))) (g.node m) refl is
    where
      by_case : (t : Bool) (o : Option Node) → g.node m ≡ o → (if t then option_map (in_block new) o else o) ≡ Some nd → (x : ℕ) × (g.node m ≡ Some (of_kind nd.kind x nd))
      by_case true None at e = cc
      by_case true (Some v) at e = (v.block, at ∙ ap (λ (u : Node). Some (of_kind u.kind v.block u)) (same_Some (in_block new v) nd e))
      by_case false None at e = cc
      by_case false (Some v) at e = (v.block, at ∙ ap (λ (u : Node). Some (of_kind u.kind v.block u)) (same_Some v nd e))

  split_gone : (m : ℕ) → h.node m ≡ None → g.node m ≡ None
  split_gone m is = by_case (has_number m (behind n (nodes_in g b))) (g.node m) refl is
    where
      by_case : (t : Bool) (o : Option Node) → g.node m ≡ o → (if t then option_map (in_block new) o else o) ≡ None → g.node m ≡ None
      by_case true None at e = at
      by_case true (Some v) at e = cc
      by_case false None at e = at
      by_case false (Some v) at e = cc

  split_is_one : AreOne h g.node g.block b new
  split_is_one = record {
    apart = split_apart;
    kept = split_kept;
    gone = split_gone;
    live = node_live h split_is_whole;
    nodes_first = split_nodes;
    nodes_other = split_other (λ x. x.nodes) (λ v. refl);
    after_first = sym (split_new (λ x. x.after));
    after_other = split_other (λ x. x.after) (λ v. refl);
    leads = ap (has_number new) split_after ∙ has_one new;
    alone = ap (list_all (λ c. c == new)) split_after ∙ rw (same_number new) refl;
    far = λ c other. split_is_whole.edges c new ∙ (ap (has_number c) (split_new (λ x. x.before)) ∙ has_another c b other);
    entered = none_entered h split_is_whole new (split_new (λ x. listed x.entry_of));
    arrivals = none_arrives h split_is_whole new (split_new (λ x. x.arriving));
    if_last = λ i m nd got last is itself.
        let y = some_first (behind n (nodes_in g b)) more in
        (y.0, split_after, ap (λ (xs : List ℕ). slice_get xs 0) (split_new (λ x. x.nodes)) ∙ y.1);
  }

turned : (heap : List Object) (symbols : List Symbol) (g g' : FlowGraph) → MeansTheSame heap symbols g g' → MeansTheSame heap symbols g' g
turned heap symbols g g' m = (m.1, m.0)

pub split_kept_same : GraphsAreNeverFull → SplitKept
split_kept_same free heap symbols g n new w no_fault vacant = by_node (g.node n) refl
  where
    allowed : (is_node g n ≡ true) × (is_last_in g n (block_of g n) ≡ false)
    allowed =
        let first = passed (not (is_node g n)) _ _ no_fault in
        (true_of (is_node g n) first.0, (passed (is_last_in g n (block_of g n)) _ _ first.1).0)

    by_block : (b : ℕ) → block_of g n ≡ b ∷ [] → MeansTheSame heap symbols g (split_behind n (block_of g n) new g)
    by_block b at =
        let more = (neither (is_empty (behind n (nodes_in g b))) false (subst (λ (bs : List ℕ). is_last_in g n bs ≡ false) at allowed.1)).0 in
        subst (λ (bs : List ℕ). MeansTheSame heap symbols g (split_behind n bs new g)) (sym at)
        (turned heap symbols (split n b new g) g (one_means free heap symbols (split n b new g) g.node g.block b new (split_is_one g n b new w (placed_live g n b w at) vacant more)))

    by_node : (o : Option Node) → g.node n ≡ o → MeansTheSame heap symbols g (split_behind n (block_of g n) new g)
    by_node None is = impossible (sym (ap is_some is) ∙ allowed.0)
    by_node (Some nd) is = by_block nd.block (ap (numbers_of (λ x. x.block ∷ [])) is)
