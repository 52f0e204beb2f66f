-- A continuation that is taken in the place of another keeps the meaning, where both hold the same when they are taken.
use Rattle.std.proofs.Common.{◌≡◌, ◌≢◌, ◌⊎◌, inl, inr, refl, ap, sym, subst, subst₂, ◌∙◌, ℕ, suc, Bool, true, false, ◌==◌, if◌then◌else◌, eq-eqb, ne_eqb, List, [], ◌∷◌, ◌++◌, map-id, length, Option, Some, None, option_map}
use Rattle.std.specs.Prelude.{slice_get}
use Rattle.std.proofs.lemmas.Bool.{cases_eq}
use Rattle.layers.specs.Input.{Input}
use Rattle.layers.specs.Layer.{after}
use Rattle.layers.specs.Keeping.{Keeps}
use Rattle.core_form.specs.State.{Symbol, Object}
use Rattle.core_form.specs.Effect.{Effect, ◌>>◌}
use Rattle.core_form.specs.Force.{Vals}
use Rattle.icr_graph.specs.declared.nodes.NodeKind.{NodeKind}
use Rattle.icr_graph.specs.declared.nodes.NodeKind.TheVariants as kind
use Rattle.icr_graph.specs.declared.nodes.Extent.{Extent}
use Rattle.icr_graph.specs.declared.nodes.Extent.TheVariants as extent
use Rattle.icr_graph.specs.declared.nodes.Node.{Node}
use Rattle.icr_graph.specs.declared.parts.Cont.{Cont}
use Rattle.icr_graph.specs.Lists.{has_number, renumber, renumbered, numbers_of, listed, changed}
use Rattle.icr_graph.specs.Kinds.{operands_of, arrivals_of, taking as taking_operands, extent_taking}
use Rattle.icr_graph.specs.Plain.{FlowGraph, nodes_in, blocks_after, dest_of}
use Rattle.icr_graph.specs.Whole.{IsWhole}
use Rattle.icr_graph.specs.Edits.{taken_by, taking_instead, substituted, substituted_at}
use Rattle.icr_graph.specs.Faults.{is_empty}
use Rattle.icr_graph.proofs.Regrouped.{has_another, has_one}
use Rattle.icr_graph.proofs.Substituted.{renamed_other, renamed_new, substitute_allowed}
use Rattle.graph_meaning.specs.Machine.{Delivered, nothing, without_all, delivered_to, or_no_values, values_at, Machine}
use Rattle.graph_meaning.specs.Reading.{assertions_on, named, variable_of_entry, variable_left}
use Rattle.graph_meaning.specs.Effects.{test_operands, box_before}
use Rattle.graph_meaning.specs.Running.{first_values, step}
use Rattle.graph_meaning.specs.AsLayer.{first_machine, graphs_together}
use Rattle.graph_meaning.specs.Laws.{GraphsAreNeverFull}
use Rattle.graph_edits.specs.Laws.{MeansTheSame, HoldTheSame, TakesTheSame, SubstitutionKept}
use Rattle.graph_edits.proofs.Alike.{Edit, with_others, AllArrive}
use Rattle.graph_edits.proofs.Steps.{got_has}
use Rattle.graph_edits.proofs.Along.{Turn, runs, ends}
use Rattle.graph_edits.proofs.Reading.{fits_from, chooses_same}
use Rattle.graph_edits.proofs.Values.{Agrees, acts_agree, first_same, tests_pass, seen_through, first_renamed, acts_renamed, boxes_renamed, operands_taking, left_over}
use Rattle.graph_edits.proofs.Kept.{both_keep}
use Rattle.graph_edits.proofs.Blocks.{node_live}

-- the same place
pub data SamePlace : (b i b' i' : ℕ) → Type 0 where
  same_place : (b i : ℕ) → SamePlace b i b i

-- What continuations hold in both runs: the same, but that the old one is taken before, and the new one after.
pub record HeldAlike (old new : ℕ) (d d' : Delivered) : Type 0 where
  pub others : (j : ℕ) → j ≢ old → j ≢ new → d j ≡ d' j
  pub old_one : (values_at d old ≡ values_at d' old) ⊎ (values_at d old ≡ [])
  pub new_one : (values_at d new ≡ values_at d' new) ⊎ (values_at d' new ≡ [])

module _ (old new : ℕ) (apart : old ≢ new) where
  pub fresh_alike : HeldAlike old new nothing nothing
  fresh_alike = record { others = λ j x y. refl; old_one = inl refl; new_one = inl refl }

  pub delivering_alike : (k : Option ℕ) (vs : Vals) (d d' : Delivered) → HeldAlike old new d d' → HeldAlike old new (delivered_to k vs d) (delivered_to k vs d')
  delivering_alike None vs d d' h = h
  delivering_alike (Some k) vs d d' h = record {
    others = λ j x y. ap (λ (o : Option Vals). if j == k then Some vs else o) (h.others j x y);
    old_one = at_old (old == k) h.old_one;
    new_one = at_new (new == k) h.new_one;
  }
    where
      at_old : (t : Bool) → (values_at d old ≡ values_at d' old) ⊎ (values_at d old ≡ []) →
          (values_at (λ j. if t then Some vs else d j) old ≡ values_at (λ j. if t then Some vs else d' j) old) ⊎ (values_at (λ j. if t then Some vs else d j) old ≡ [])
      at_old true h = inl refl
      at_old false h = h

      at_new : (t : Bool) → (values_at d new ≡ values_at d' new) ⊎ (values_at d' new ≡ []) →
          (values_at (λ j. if t then Some vs else d j) new ≡ values_at (λ j. if t then Some vs else d' j) new) ⊎ (values_at (λ j. if t then Some vs else d' j) new ≡ [])
      at_new true h = inl refl
      at_new false h = h

  -- where both hold the same in both runs, what is taken is the same
  taken_same : (d d' : Delivered) → HeldAlike old new d d' → values_at d old ≡ values_at d new → values_at d' old ≡ values_at d' new → values_at d old ≡ values_at d' new
  taken_same d d' h e e' = by_case h.old_one h.new_one
    where
      by_case : (values_at d old ≡ values_at d' old) ⊎ (values_at d old ≡ []) → (values_at d new ≡ values_at d' new) ⊎ (values_at d' new ≡ []) → values_at d old ≡ values_at d' new
      by_case (inl x) y = x ∙ e'
      by_case (inr x) (inl y) = e ∙ y
      by_case (inr x) (inr y) = x ∙ sym y

  -- a node takes other continuations
  others_taken : (ks : List ℕ) → has_number old ks ≡ false → has_number new ks ≡ false → (d d' : Delivered) → HeldAlike old new d d' → HeldAlike old new (without_all ks d) (without_all ks d')
  others_taken ks no_old no_new d d' h = record {
    others = λ j x y. left_over ks d j ∙ (ap (λ (o : Option Vals). if has_number j ks then None else o) (h.others j x y) ∙ sym (left_over ks d' j));
    old_one = subst₂ (λ x y. (x ≡ y) ⊎ (x ≡ [])) (sym (stays old no_old d)) (sym (stays old no_old d')) h.old_one;
    new_one = subst₂ (λ x y. (x ≡ y) ⊎ (y ≡ [])) (sym (stays new no_new d)) (sym (stays new no_new d')) h.new_one;
  }
    where
      stays : (j : ℕ) → has_number j ks ≡ false → (d : Delivered) → values_at (without_all ks d) j ≡ values_at d j
      stays j none d = rw (left_over ks d j, none) refl

  -- the node that takes the old one before takes the new one after
  both_taken : (ks : List ℕ) → has_number old ks ≡ true → has_number new ks ≡ false → (d d' : Delivered) → HeldAlike old new d d' → HeldAlike old new (without_all ks d) (without_all (renumbered old new ks) d')
  both_taken ks has_old no_new d d' h = record {
    others = λ j x y.
        left_over ks d j
        ∙ (ap (λ (o : Option Vals). if has_number j ks then None else o) (h.others j x y)
        ∙ (ap (λ (t : Bool). if t then None else d' j) (sym (renamed_other old new j x y ks)) ∙ sym (left_over (renumbered old new ks) d' j)));
    old_one = inr (goes old ks has_old d);
    new_one = inr (goes new (renumbered old new ks) (renamed_new old new ks no_new ∙ has_old) d');
  }
    where
      goes : (j : ℕ) (xs : List ℕ) → has_number j xs ≡ true → (d : Delivered) → values_at (without_all xs d) j ≡ []
      goes j xs has d = rw (left_over xs d j, has) refl

module _ (number : ℕ) (g : FlowGraph) (node old new : ℕ) (apart : old ≢ new) (taker : dest_of g old ≡ node ∷ []) (free : dest_of g new ≡ []) (w : IsWhole g) (asserted : assertions_on (g.cont old) ≡ assertions_on (g.cont new)) where
  abbrev other_nodes : ℕ → Option Node
  other_nodes = changed (taking_instead old new) node g.node

  abbrev other_conts : ℕ → Option Cont
  other_conts = changed (taken_by (Some node)) new (changed (taken_by None) old g.cont)

  abbrev pub substituting : Edit
  substituting = record {
    number = number;
    text = g;
    nodes = other_nodes;
    conts = other_conts;
    blocks = g.block;
    Spot = SamePlace;
    Held = HeldAlike old new;
    fresh = fresh_alike old new apart;
    delivering = delivering_alike old new apart;
    entered = λ j f is b has. same_place b 0;
  }

  abbrev g' : FlowGraph
  g' = with_others g other_nodes other_conts g.block

  abbrev pub no_rank : ℕ → ℕ → ℕ
  no_rank b i = 0

  all_begin : (bs : List ℕ) → AllArrive substituting number bs
  all_begin [] = tt
  all_begin (b ∷ bs) = ((λ is. same_place b 0), all_begin bs)

  -- the assertions stay
  same_assertions : (k : ℕ) → assertions_on (g.cont k) ≡ assertions_on (other_conts k)
  same_assertions k = by_case (k == new) (k == old) (g.cont k)
    where
      by_case : (t u : Bool) (o : Option Cont) → assertions_on o ≡ assertions_on (if t then option_map (taken_by (Some node)) (if u then option_map (taken_by None) o else o) else (if u then option_map (taken_by None) o else o))
      by_case true true None = refl
      by_case true true (Some c) = refl
      by_case true false None = refl
      by_case true false (Some c) = refl
      by_case false true None = refl
      by_case false true (Some c) = refl
      by_case false false o = refl

  -- so do the variables of extents
  same_variable : (m : ℕ) → variable_of_entry (g.node m) ≡ variable_of_entry (other_nodes m)
  same_variable m = by_case (m == node) (g.node m)
    where
      by_extent : (x : Extent) (xs : List ℕ) (nd : Node) → variable_of_entry (Some (record nd { kind = kind.Entry x xs })) ≡ variable_of_entry (Some (record nd { kind = kind.Entry (extent_taking old new x) xs }))
      by_extent (extent.Named v land) xs nd = refl
      by_extent (extent.Tags v tags) xs nd = refl
      by_extent (extent.Catching tag land) xs nd = refl
      by_extent (extent.Guarded cleanup) xs nd = refl
      by_extent (extent.Special s value) xs nd = refl
      by_extent (extent.Keep values) xs nd = refl

      by_kind : (k : NodeKind) (nd : Node) → variable_of_entry (Some (record nd { kind = k })) ≡ variable_of_entry (Some (record nd { kind = taking_operands old new k }))
      by_kind (kind.Ref l) nd = refl
      by_kind (kind.Set x value) nd = refl
      by_kind (kind.If test) nd = refl
      by_kind (kind.Combination op ks) nd = refl
      by_kind (kind.MvCombination f ks tail) nd = refl
      by_kind (kind.Bind x value) nd = refl
      by_kind (kind.Return value) nd = refl
      by_kind (kind.Entry x exits) nd = by_extent x exits nd
      by_kind (kind.Exit y entry) nd = refl

      by_case : (t : Bool) (o : Option Node) → variable_of_entry o ≡ variable_of_entry (if t then option_map (taking_instead old new) o else o)
      by_case true None = refl
      by_case true (Some nd) = by_kind nd.kind nd
      by_case false o = refl

  same_left : (entry : Option ℕ) → variable_left g entry ≡ variable_left g' entry
  same_left None = refl
  same_left (Some m) = ap (λ (o : Option ℕ). named g.variable o) (same_variable m)

  operand_of : (k m : ℕ) (nd : Node) → g.node m ≡ Some nd → has_number k (operands_of nd.kind) ≡ has_number m (dest_of g k)
  operand_of k m nd is = ap (λ (o : Option Node). has_number k (numbers_of (λ x. operands_of x.kind) o)) (sym is) ∙ w.operands m k

  no_new : (m : ℕ) (nd : Node) → g.node m ≡ Some nd → has_number new (operands_of nd.kind) ≡ false
  no_new m nd is = operand_of new m nd is ∙ ap (has_number m) free

  not_this : (j k : ℕ) (ks : List ℕ) → has_number j ks ≡ true → has_number k ks ≡ false → j ≢ k
  not_this j k ks has none e = absurd_of (sym none ∙ (ap (λ (x : ℕ). has_number x ks) (sym e) ∙ has))
    where
      absurd_of : false ≡ true → ⊥
      absurd_of q = cc

  module _ (b i m : ℕ) (nd : Node) (got : slice_get (nodes_in g b) i ≡ Some m) (is : g.node m ≡ Some nd) (d d' : Delivered) (h : HeldAlike old new d d') where
    abbrev ks : List ℕ
    ks = operands_of nd.kind

    abbrev rs : List ℕ
    rs = renumbered old new ks

    -- another node
    other_turn : m ≢ node → Turn substituting no_rank b i b i d d'
    other_turn other =
        let no_old : has_number old ks ≡ false = operand_of old m nd is ∙ (ap (has_number m) taker ∙ has_another m node other) in
        let agrees : Agrees d d' ks = λ j has. ap or_no_values (h.others j (not_this j old ks has no_old) (not_this j new ks has (no_new m nd is))) in
        runs nd nd.kind nd.block (same_place b i) (record {
          at = ap (named g.node) got ∙ is;
          at' = ap (named other_nodes) got ∙ rw (ne_eqb m node other) is;
          on = same_place b (suc i);
          taken = others_taken old new apart ks no_old (no_new m nd is) d d' h;
          tests = λ f.
              ap (λ (vs : Vals). box_before nd.kind vs >> test_operands g f d ks) (first_same d d' ks agrees)
              ∙ ap (λ (t : Effect (Unit {0})). box_before nd.kind (first_values d' ks) >> t)
              (tests_pass g g' f d d' (λ x. x) ks (λ j has. (same_assertions j, agrees j has)) ∙ ap (test_operands g' f d') (map-id ks));
          does = λ start a ws s. acts_agree d d' g start nd a ws nd.kind agrees s;
          fits = fits_from substituting g g' number b i b i nd.kind (λ t. chooses_same substituting number (slice_get (nodes_in g b) (suc i)) (blocks_after g b) (all_begin (blocks_after g b))) (all_begin (arrivals_of nd.kind)) same_left;
        })

    renumbered_old : renumber old new old ≡ new
    renumbered_old = rw (eq-eqb old old refl) refl

    renumbered_other : (j : ℕ) → j ≢ old → renumber old new j ≡ j
    renumbered_other j other = rw (ne_eqb j old other) refl

    -- the destination
    node_turn : m ≡ node → values_at d old ≡ values_at d' new → Turn substituting no_rank b i b i d d'
    node_turn at same =
        let has_old : has_number old ks ≡ true = operand_of old m nd is ∙ (ap (has_number m) taker ∙ (ap (λ (x : ℕ). has_number x (node ∷ [])) at ∙ has_one node)) in
        let k' = taking_operands old new nd.kind in
        let renamed : operands_of k' ≡ rs = operands_taking old new nd.kind in
        let agrees : Agrees d (seen_through old new d') ks = λ j has. by_number j has (cases_eq j old) in
        runs nd k' nd.block (same_place b i) (record {
          at = ap (named g.node) got ∙ is;
          at' = ap (named other_nodes) got ∙ rw (eq-eqb m node at, is) refl;
          on = same_place b (suc i);
          taken = subst (λ (xs : List ℕ). HeldAlike old new (without_all ks d) (without_all xs d')) (sym renamed) (both_taken old new apart ks has_old (no_new m nd is) d d' h);
          tests = λ f.
              ap (λ (vs : Vals). box_before nd.kind vs >> test_operands g f d ks) (first_same d (seen_through old new d') ks agrees ∙ (sym (first_renamed old new d' ks) ∙ ap (first_values d') (sym renamed)))
              ∙ (ap (λ (t : Effect (Unit {0})). box_before nd.kind (first_values d' (operands_of k')) >> t)
              (tests_pass g g' f d d' (renumber old new) ks (λ j has. (asserted_by j (cases_eq j old), agrees j has)) ∙ ap (test_operands g' f d') (sym renamed))
              ∙ ap (λ (t : Effect (Unit {0})). t >> test_operands g' f d' (operands_of k')) (boxes_renamed old new d' nd.kind (first_values d' (operands_of k'))));
          does = λ start a ws s. acts_agree d (seen_through old new d') g start nd a ws nd.kind agrees s ∙ sym (acts_renamed old new d' g start nd a ws nd.kind s);
          fits = fits_from substituting g g' number b i b i k' (λ t. chooses_same substituting number (slice_get (nodes_in g b) (suc i)) (blocks_after g b) (all_begin (blocks_after g b))) (all_begin (arrivals_of k')) same_left;
        })
      where
        by_number : (j : ℕ) → has_number j ks ≡ true → (j ≡ old) ⊎ (j ≢ old) → values_at d j ≡ values_at (seen_through old new d') j
        by_number j has (inl e) =
            ap (values_at d) e ∙ (same ∙ (ap (values_at d') (sym renumbered_old) ∙ ap (λ (x : ℕ). values_at d' (renumber old new x)) (sym e)))
        by_number j has (inr other) =
            ap or_no_values (h.others j other (not_this j new ks has (no_new m nd is))) ∙ ap (values_at d') (sym (renumbered_other j other))

        asserted_by : (j : ℕ) → (j ≡ old) ⊎ (j ≢ old) → assertions_on (g.cont j) ≡ assertions_on (g'.cont (renumber old new j))
        asserted_by j (inl e) =
            ap (λ (x : ℕ). assertions_on (g.cont x)) e ∙ (asserted ∙ (same_assertions new ∙ (ap (λ (x : ℕ). assertions_on (other_conts x)) (sym renumbered_old) ∙ ap (λ (x : ℕ). assertions_on (other_conts (renumber old new x))) (sym e))))
        asserted_by j (inr other) = same_assertions j ∙ ap (λ (x : ℕ). assertions_on (other_conts x)) (sym (renumbered_other j other))

  -- at each place that is known to hold the same
  pub substituting_turn : {b i b' i' : ℕ} {d d' : Delivered} → SamePlace b i b' i' → HeldAlike old new d d' →
      ((n : ℕ) → slice_get (nodes_in g b) i ≡ Some n → has_number n (node ∷ []) ≡ true → values_at d old ≡ values_at d new) →
      ((n : ℕ) → slice_get (nodes_in g b') i' ≡ Some n → has_number n (node ∷ []) ≡ true → values_at d' old ≡ values_at d' new) → Turn substituting no_rank b i b' i' d d'
  substituting_turn {d = d} {d' = d'} (same_place b i) h before behind = by_case (slice_get (nodes_in g b) i) refl
    where
      by_node : (m : ℕ) → slice_get (nodes_in g b) i ≡ Some m → (nd : Node) → g.node m ≡ Some nd → (m ≡ node) ⊎ (m ≢ node) → Turn substituting no_rank b i b i d d'
      by_node m got nd is (inl at) =
          let here : has_number m (node ∷ []) ≡ true = ap (λ (x : ℕ). has_number x (node ∷ [])) at ∙ has_one node in
          node_turn b i m nd got is d d' h at (taken_same old new apart d d' h (before m got here) (behind m got here))
      by_node m got nd is (inr other) = other_turn b i m nd got is d d' h other

      by_case : (o : Option ℕ) → slice_get (nodes_in g b) i ≡ o → Turn substituting no_rank b i b i d d'
      by_case None got = ends (ap (named g.node) got) (ap (named other_nodes) got) (same_place b i) h refl (all_begin (blocks_after g b))
      by_case (Some m) got = let nd = node_live g w b m (got_has (nodes_in g b) i m got) in by_node m got nd.0 nd.1 (cases_eq m node)

-- ---- whole runs

module _ (heap : List Object) (symbols : List Symbol) (prelude : ℕ) where
  -- a machine that some run comes to
  abbrev pub Reached : List FlowGraph → Machine → Type 0
  Reached graphs m = (i : Input) × (k : ℕ) × (after (step symbols graphs) k (first_machine heap symbols prelude graphs i.letters) ≡ m)

  pub reaches_next : (graphs : List FlowGraph) (m : Machine) → Reached graphs m → Reached graphs (step symbols graphs m)
  reaches_next graphs m r = (r.0, suc r.1, ap (step symbols graphs) r.2)

module _ (free : GraphsAreNeverFull) (heap : List Object) (symbols : List Symbol) (g : FlowGraph) (node old new : ℕ) (apart : old ≢ new) (taker : dest_of g old ≡ node ∷ []) (empty : dest_of g new ≡ []) (w : IsWhole g) (asserted : assertions_on (g.cont old) ≡ assertions_on (g.cont new))
    (before_it : TakesTheSame heap symbols g (node ∷ []) old new) (behind_it : TakesTheSame heap symbols (substituted node old new g) (node ∷ []) old new) where
  abbrev result : FlowGraph
  result = substituted node old new g

  module _ (prelude : ℕ) (before behind : List FlowGraph) where
    abbrev first_list : List FlowGraph
    first_list = before ++ g ∷ behind

    abbrev second_list : List FlowGraph
    second_list = before ++ result ∷ behind

    abbrev Sure : Machine → Machine → Type 0
    Sure m m' = Reached heap symbols prelude first_list m × Reached heap symbols prelude second_list m'

    both_among : (bytes stack : ℕ) →
        Keeps bytes stack (graphs_together heap symbols prelude first_list) (graphs_together heap symbols prelude second_list)
        × Keeps bytes stack (graphs_together heap symbols prelude second_list) (graphs_together heap symbols prelude first_list)
    both_among bytes stack =
        both_keep free heap symbols (substituting (length before) g node old new apart taker empty w asserted) (no_rank (length before) g node old new apart taker empty w asserted) prelude before behind refl Sure
        (record {
          turn = λ us born f ws ws' s sure spot held.
              substituting_turn (length before) g node old new apart taker empty w asserted spot held
              (λ n got has. subst (λ (m : Machine). HoldTheSame g (length before) (node ∷ []) old new m) sure.0.2 (before_it prelude before behind sure.0.0 sure.0.1) refl refl n got has)
              (λ n got has. subst (λ (m : Machine). HoldTheSame result (length before) (node ∷ []) old new m) sure.1.2 (behind_it prelude before behind sure.1.0 sure.1.1) refl refl n got has);
          both_sure = λ m m' r. (reaches_next heap symbols prelude first_list m r.0, reaches_next heap symbols prelude second_list m' r.1);
          one_sure = λ m m' r. (reaches_next heap symbols prelude first_list m r.0, r.1);
        })
        (λ i. ((i, 0, refl), (i, 0, refl))) bytes stack

  substituted_means : MeansTheSame heap symbols g result
  substituted_means = (λ prelude before behind bytes stack. (both_among prelude before behind bytes stack).0, λ prelude before behind bytes stack. (both_among prelude before behind bytes stack).1)

-- a continuation has one destination at most
one_dest : (o : Option Cont) → is_empty (numbers_of (λ x. listed x.dest) o) ≡ false → (n : ℕ) × (numbers_of (λ x. listed x.dest) o ≡ n ∷ [])
one_dest None h = cc
one_dest (Some c) h = by_case c.dest h
  where
    by_case : (o : Option ℕ) → is_empty (listed o) ≡ false → (n : ℕ) × (listed o ≡ n ∷ [])
    by_case None e = cc
    by_case (Some n) e = (n, refl)

pub substitution_kept_same : GraphsAreNeverFull → SubstitutionKept
substitution_kept_same free heap symbols g old new w no_fault asserted before_it behind_it =
    let allowed = substitute_allowed g old new no_fault in
    let taker = one_dest (g.cont old) allowed.1 in
    subst (λ (ns : List ℕ). TakesTheSame heap symbols g ns old new → TakesTheSame heap symbols (substituted_at ns old new g) ns old new → MeansTheSame heap symbols g (substituted_at ns old new g)) (sym taker.1)
    (λ x y. substituted_means free heap symbols g taker.0 old new allowed.3 taker.1 allowed.2 w asserted x y) before_it behind_it
