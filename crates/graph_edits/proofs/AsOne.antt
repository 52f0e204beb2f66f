-- Two blocks of a graph stand in another as one block: the graphs mean the same.
use Rattle.std.proofs.Common.{◌≡◌, ◌≢◌, ◌⊎◌, inl, inr, refl, ap, sym, subst, ◌∙◌, ℕ, suc, ◌+◌, ◌<◌, ◌≤◌, arith, true, false, ◌==◌, if◌then◌else◌, eq-eqb, ne_eqb, List, [], ◌∷◌, ◌++◌, length, Option, Some, None}
use Rattle.std.specs.Prelude.{slice_get}
use Rattle.std.specs.List.{list_all}
use Rattle.std.proofs.lemmas.Bool.{cases_eq}
use Rattle.core_form.specs.Effect.{Effect, ◌>>◌}
use Rattle.icr_graph.specs.declared.nodes.Node.{Node}
use Rattle.icr_graph.specs.declared.parts.Block.{Block}
use Rattle.icr_graph.specs.declared.parts.Function.{Function}
use Rattle.icr_graph.specs.Lists.{has_number}
use Rattle.icr_graph.specs.Kinds.{operands_of, arrivals_of, is_if}
use Rattle.icr_graph.specs.Plain.{FlowGraph, nodes_in, blocks_after}
use Rattle.graph_meaning.specs.Machine.{Delivered, without_all, delivered_to}
use Rattle.graph_meaning.specs.Reading.{named}
use Rattle.graph_meaning.specs.Effects.{test_operands, box_before}
use Rattle.graph_meaning.specs.Running.{first_values, acts, runs_at}
use Rattle.graph_edits.proofs.Alike.{Edit, with_others, of_kind, activation_at, AllArrive}
use Rattle.graph_edits.proofs.Nodes.{Chooses, behind_both, only_one}
use Rattle.graph_edits.proofs.Steps.{got_has}
use Rattle.graph_edits.proofs.Along.{Turn, runs, ends, lags}
use Rattle.graph_edits.proofs.Reading.{got_front, got_back, got_none, got_some, apart_first, apart_rest, apart_from_all, leads_to, tests_same, left_same, fits_from, chooses_same}

-- The graph with these nodes and blocks has the second block of the graph behind the nodes of the first.
pub record AreOne (g : FlowGraph) (nodes : ℕ → Option Node) (blocks : ℕ → Option Block) (first second : ℕ) : Type 0 where
  pub apart : first ≢ second
  -- the nodes are the same, but for their blocks, and those of blocks are there
  pub kept : (m : ℕ) (nd : Node) → g.node m ≡ Some nd → (x : ℕ) × (nodes m ≡ Some (of_kind nd.kind x nd))
  pub gone : (m : ℕ) → g.node m ≡ None → nodes m ≡ None
  pub live : (b m : ℕ) → has_number m (nodes_in g b) ≡ true → (nd : Node) × (g.node m ≡ Some nd)
  -- the nodes of blocks
  pub nodes_first : nodes_in (with_others g nodes g.cont blocks) first ≡ nodes_in g first ++ nodes_in g second
  pub nodes_other : (b : ℕ) → b ≢ first → b ≢ second → nodes_in (with_others g nodes g.cont blocks) b ≡ nodes_in g b
  -- the edges
  pub after_first : blocks_after (with_others g nodes g.cont blocks) first ≡ blocks_after g second
  pub after_other : (b : ℕ) → b ≢ first → b ≢ second → blocks_after (with_others g nodes g.cont blocks) b ≡ blocks_after g b
  -- the first leads to the second alone, and nothing else does
  pub leads : has_number second (blocks_after g first) ≡ true
  pub alone : list_all (λ c. c == second) (blocks_after g first) ≡ true
  pub far : (b : ℕ) → b ≢ first → has_number second (blocks_after g b) ≡ false
  pub entered : (j : ℕ) (f : Function) → g.function j ≡ Some f → has_number second f.entries ≡ false
  pub arrivals : (m : ℕ) (nd : Node) → g.node m ≡ Some nd → has_number second (arrivals_of nd.kind) ≡ false
  -- an If at the end of the first has no choice, and a node behind it
  pub if_last : (i m : ℕ) (nd : Node) → slice_get (nodes_in g first) i ≡ Some m → suc i ≡ length (nodes_in g first) → g.node m ≡ Some nd → is_if nd.kind ≡ true →
      (y : ℕ) × (blocks_after g first ≡ second ∷ []) × (slice_get (nodes_in g second) 0 ≡ Some y)

-- the places that go along with each other, where the first block has so many nodes
pub data Placed (first second size : ℕ) : (b i b' i' : ℕ) → Type 0 where
  in_other : (b i : ℕ) → b ≢ first → b ≢ second → Placed first second size b i b i
  in_first : (i : ℕ) → i ≤ size → Placed first second size first i first i
  in_second : (i : ℕ) → Placed first second size second i first (size + i)

-- a block begins where it did
pub begins_same : (first second size b : ℕ) → b ≢ second → Placed first second size b 0 b 0
begins_same first second size b other = by_case (cases_eq b first)
  where
    by_case : (b ≡ first) ⊎ (b ≢ first) → Placed first second size b 0 b 0
    by_case (inl is) = subst (λ (x : ℕ). Placed first second size x 0 x 0) (sym is) (in_first 0 (omega arith))
    by_case (inr is_not) = in_other b 0 is_not other

module _ (number : ℕ) (g : FlowGraph) (nodes : ℕ → Option Node) (blocks : ℕ → Option Block) (first second : ℕ) (one : AreOne g nodes blocks first second) where
  abbrev size : ℕ
  size = length (nodes_in g first)

  abbrev pub as_one : Edit
  as_one = record {
    number = number;
    text = g;
    nodes = nodes;
    conts = g.cont;
    blocks = blocks;
    Spot = Placed first second size;
    Held = λ d d'. d ≡ d';
    fresh = refl;
    delivering = λ k vs d d' e. ap (delivered_to k vs) e;
    entered = λ j f is b has. begins_same first second size b (apart_from_all second b f.entries (one.entered j f is) has);
  }

  abbrev g' : FlowGraph
  g' = with_others g nodes g.cont blocks

  -- at the end of the first block a run is behind
  abbrev pub rank : ℕ → ℕ → ℕ
  rank b i = if b == first then 1 else 0

  all_begin : (bs : List ℕ) → has_number second bs ≡ false → AllArrive as_one number bs
  all_begin [] h = tt
  all_begin (b ∷ bs) h = ((λ is. begins_same first second size b (apart_first second b bs h)), all_begin bs (apart_rest second b bs h))

  abbrev Choosing : (b i b' i' : ℕ) → Type 0
  Choosing b i b' i' = Chooses as_one number (slice_get (nodes_in g b) (suc i)) (slice_get (nodes_in g' b') (suc i')) (blocks_after g b) (blocks_after g' b')

  -- a node runs in both
  node_turn : (b i b' i' m : ℕ) (nd : Node) {d d' : Delivered} → slice_get (nodes_in g b) i ≡ Some m → slice_get (nodes_in g' b') i' ≡ Some m → g.node m ≡ Some nd →
      Placed first second size b i b' i' → Placed first second size b (suc i) b' (suc i') → (is_if nd.kind ≡ true → Choosing b i b' i') → d ≡ d' → Turn as_one rank b i b' i' d d'
  node_turn b i b' i' m nd {d} {d'} got got' is spot next chooses e =
      let k = one.kept m nd is in
      runs nd nd.kind k.0 spot (record {
        at = ap (named g.node) got ∙ is;
        at' = ap (named nodes) got' ∙ k.1;
        on = next;
        taken = ap (without_all (operands_of nd.kind)) e;
        tests = λ f.
            ap (λ (x : Delivered). box_before nd.kind (first_values x (operands_of nd.kind)) >> test_operands g f x (operands_of nd.kind)) e
            ∙ ap (λ (t : Effect (Unit {0})). box_before nd.kind (first_values d' (operands_of nd.kind)) >> t) (tests_same g nodes blocks f d' (operands_of nd.kind));
        does = λ start a ws s. ap (λ (x : Delivered). acts g start nd x a ws nd.kind s) e;
        fits = fits_from as_one g g' number b i b' i' nd.kind chooses (all_begin (arrivals_of nd.kind) (one.arrivals m nd is)) (left_same g nodes g.cont blocks one.kept one.gone);
      })

  -- in another block
  other_turn : (b i : ℕ) (apart_first : b ≢ first) (apart_second : b ≢ second) {d d' : Delivered} → d ≡ d' → Turn as_one rank b i b i d d'
  other_turn b i nf ns {d} {d'} e = by_case (slice_get (nodes_in g b) i) refl
    where
      same_nodes : (j : ℕ) → slice_get (nodes_in g' b) j ≡ slice_get (nodes_in g b) j
      same_nodes j = ap (λ (xs : List ℕ). slice_get xs j) (one.nodes_other b nf ns)

      choosing : Choosing b i b i
      choosing =
          subst (λ (o : Option ℕ). Chooses as_one number (slice_get (nodes_in g b) (suc i)) o (blocks_after g b) (blocks_after g' b)) (sym (same_nodes (suc i)))
          (subst (λ (bs : List ℕ). Chooses as_one number (slice_get (nodes_in g b) (suc i)) (slice_get (nodes_in g b) (suc i)) (blocks_after g b) bs) (sym (one.after_other b nf ns))
          (chooses_same as_one number (slice_get (nodes_in g b) (suc i)) (blocks_after g b) (all_begin (blocks_after g b) (one.far b nf))))

      by_case : (o : Option ℕ) → slice_get (nodes_in g b) i ≡ o → Turn as_one rank b i b i d d'
      by_case None is =
          ends (ap (named g.node) is) (ap (named nodes) (same_nodes i ∙ is)) (in_other b i nf ns) e (sym (one.after_other b nf ns)) (all_begin (blocks_after g b) (one.far b nf))
      by_case (Some m) is =
          let nd = one.live b m (got_has (nodes_in g b) i m is) in
          node_turn b i b i m nd.0 is (same_nodes i ∙ is) nd.1 (in_other b i nf ns) (in_other b (suc i) nf ns) (λ h. choosing) e

  -- in the first block
  first_turn : (i : ℕ) → i ≤ size → {d d' : Delivered} → d ≡ d' → Turn as_one rank first i first i d d'
  first_turn i le {d} {d'} e = by_case (slice_get (nodes_in g first) i) refl
    where
      front : (j m : ℕ) → slice_get (nodes_in g first) j ≡ Some m → slice_get (nodes_in g' first) j ≡ Some m
      front j m is = ap (λ (xs : List ℕ). slice_get xs j) one.nodes_first ∙ got_front (nodes_in g first) (nodes_in g second) j m is

      behind : (y : ℕ) → slice_get (nodes_in g second) 0 ≡ Some y → size ≡ suc i → slice_get (nodes_in g' first) (suc i) ≡ Some y
      behind y is last =
          ap (λ (xs : List ℕ). slice_get xs (suc i)) one.nodes_first
          ∙ (ap (slice_get (nodes_in g first ++ nodes_in g second)) {x = suc i} {y = size + 0} (omega (arith, last)) ∙ (got_back (nodes_in g first) (nodes_in g second) 0 ∙ is))

      choosing : (m : ℕ) (nd : Node) → slice_get (nodes_in g first) i ≡ Some m → g.node m ≡ Some nd → is_if nd.kind ≡ true → (o : Option ℕ) → slice_get (nodes_in g first) (suc i) ≡ o → Choosing first i first i
      choosing m nd got is h None at =
          let last : suc i ≡ size = omega (arith, got_some (nodes_in g first) i m got, got_none (nodes_in g first) (suc i) at) in
          let l = one.if_last i m nd got last is h in
          subst (λ (o : Option ℕ). Chooses as_one number o (slice_get (nodes_in g' first) (suc i)) (blocks_after g first) (blocks_after g' first)) (sym at)
          (subst (λ (o : Option ℕ). Chooses as_one number None o (blocks_after g first) (blocks_after g' first)) (sym (behind l.0 l.2 (sym last)))
          (subst (λ (bs : List ℕ). Chooses as_one number None (Some l.0) bs (blocks_after g' first)) (sym l.1) (only_one l.0 second)))
      choosing m nd got is h (Some y) at =
          subst (λ (o : Option ℕ). Chooses as_one number o (slice_get (nodes_in g' first) (suc i)) (blocks_after g first) (blocks_after g' first)) (sym at)
          (subst (λ (o : Option ℕ). Chooses as_one number (Some y) o (blocks_after g first) (blocks_after g' first)) (sym (front (suc i) y at)) (behind_both y y))

      falls : rank second 0 < rank first i
      falls = rw (ne_eqb second first (λ q. one.apart (sym q)), eq-eqb first first refl) (omega arith)

      by_case : (o : Option ℕ) → slice_get (nodes_in g first) i ≡ o → Turn as_one rank first i first i d d'
      by_case None is =
          let whole : size + 0 ≡ i = omega (arith, le, got_none (nodes_in g first) i is) in
          lags (record {
            block = second;
            index = 0;
            spot = subst (λ (n : ℕ). Placed first second size second 0 first n) whole (in_second 0);
            moves = λ start us born f ws s. (
              d,
              e,
              ap (λ (o : Option Node). runs_at g start o (activation_at number first i d us born f) ws s) (ap (named g.node) is)
                  ∙ leads_to second (blocks_after g first) one.alone one.leads (activation_at number first i d us born f) ws s,
            );
            falls = falls;
          })
      by_case (Some m) is =
          let nd = one.live first m (got_has (nodes_in g first) i m is) in
          node_turn first i first i m nd.0 is (front i m is) nd.1 (in_first i le) (in_first (suc i) (got_some (nodes_in g first) i m is))
          (λ h. choosing m nd.0 is nd.1 h (slice_get (nodes_in g first) (suc i)) refl) e

  -- in the second
  second_turn : (i : ℕ) {d d' : Delivered} → d ≡ d' → Turn as_one rank second i first (size + i) d d'
  second_turn i {d} {d'} e = by_case (slice_get (nodes_in g second) i) refl
    where
      back : (j : ℕ) → slice_get (nodes_in g' first) (size + j) ≡ slice_get (nodes_in g second) j
      back j = ap (λ (xs : List ℕ). slice_get xs (size + j)) one.nodes_first ∙ got_back (nodes_in g first) (nodes_in g second) j

      one_more : size + suc i ≡ suc (size + i)
      one_more = omega arith

      begin : AllArrive as_one number (blocks_after g second)
      begin = all_begin (blocks_after g second) (one.far second (λ q. one.apart (sym q)))

      choosing : Choosing second i first (size + i)
      choosing =
          subst (λ (o : Option ℕ). Chooses as_one number (slice_get (nodes_in g second) (suc i)) o (blocks_after g second) (blocks_after g' first)) (sym (ap (slice_get (nodes_in g' first)) (sym one_more) ∙ back (suc i)))
          (subst (λ (bs : List ℕ). Chooses as_one number (slice_get (nodes_in g second) (suc i)) (slice_get (nodes_in g second) (suc i)) (blocks_after g second) bs) (sym one.after_first)
          (chooses_same as_one number (slice_get (nodes_in g second) (suc i)) (blocks_after g second) begin))

      by_case : (o : Option ℕ) → slice_get (nodes_in g second) i ≡ o → Turn as_one rank second i first (size + i) d d'
      by_case None is = ends (ap (named g.node) is) (ap (named nodes) (back i ∙ is)) (in_second i) e (sym one.after_first) begin
      by_case (Some m) is =
          let nd = one.live second m (got_has (nodes_in g second) i m is) in
          node_turn second i first (size + i) m nd.0 is (back i ∙ is) nd.1 (in_second i) (subst (λ (n : ℕ). Placed first second size second (suc i) first n) one_more (in_second (suc i))) (λ h. choosing) e

  pub one_turn : {b i b' i' : ℕ} {d d' : Delivered} → Placed first second size b i b' i' → d ≡ d' → Turn as_one rank b i b' i' d d'
  one_turn (in_other b i nf ns) e = other_turn b i nf ns e
  one_turn (in_first i le) e = first_turn i le e
  one_turn (in_second i) e = second_turn i e
