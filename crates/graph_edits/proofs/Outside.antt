-- A run never comes to blocks that are cut off: graphs that are alike outside them go along.
use Rattle.std.proofs.Common.{◌≡◌, ◌≢◌, ◌⊎◌, inl, inr, refl, ap, sym, subst, ◌∙◌, ℕ, suc, Bool, true, false, not, ◌||◌, ◌==◌, eq-eqb, ne_eqb, List, [], ◌∷◌, map-id, Option, Some, None}
use Rattle.std.specs.Prelude.{slice_get}
use Rattle.std.specs.List.{list_any}
use Rattle.std.proofs.lemmas.Bool.{cases_eq, eqb-true, eqb-false}
use Rattle.core_form.specs.State.{State}
use Rattle.core_form.specs.Effect.{Effect, ◌>>◌}
use Rattle.core_form.specs.Force.{Vals}
use Rattle.icr_graph.specs.declared.nodes.NodeKind.{NodeKind}
use Rattle.icr_graph.specs.declared.nodes.Node.{Node}
use Rattle.icr_graph.specs.declared.parts.Cont.{Cont}
use Rattle.icr_graph.specs.declared.parts.Block.{Block}
use Rattle.icr_graph.specs.declared.parts.Function.{Function}
use Rattle.icr_graph.specs.Lists.{has_number, listed, numbers_of}
use Rattle.icr_graph.specs.Kinds.{operands_of, arrivals_of, entry_left}
use Rattle.icr_graph.specs.Plain.{FlowGraph, nodes_in, blocks_before, blocks_after, arriving_at, entered_by}
use Rattle.graph_edits.specs.Laws.{AreCutOff, DeletableCutOff}
use Rattle.icr_graph.specs.Faults.{is_block, is_entered, is_empty, has_other_before}
use Rattle.icr_graph.proofs.Allowed.{passed}
use Rattle.icr_graph.proofs.Distinct.{neither}
use Rattle.graph_meaning.specs.Machine.{Delivered, without_all, delivered_to, Activation, Waiting, Going, Machine}
use Rattle.graph_meaning.specs.Reading.{assertions_on, named, variable_left}
use Rattle.graph_meaning.specs.Effects.{test_operands, box_before}
use Rattle.graph_meaning.specs.Running.{first_values, acts}
use Rattle.graph_edits.proofs.Alike.{Edit, with_others, of_kind, AllArrive, elsewhere, within, Rests, Alike, alike, call, rests}
use Rattle.graph_edits.proofs.Steps.{got_has}
use Rattle.graph_edits.proofs.Nodes.{Chooses}
use Rattle.graph_edits.proofs.Along.{Turn, runs, ends}
use Rattle.graph_edits.proofs.Reading.{fits_by, chooses_same}
use Rattle.graph_edits.proofs.Values.{tests_pass}

-- the same place, in a block that isn't cut off
pub data Outside (cut : ℕ → Bool) : (c i c' i' : ℕ) → Type 0 where
  outside : (c i : ℕ) → cut c ≡ false → Outside cut c i c i

-- ---- a block that may be deleted

no_other : (b : ℕ) (xs : List ℕ) → list_any (λ c. not (c == b)) xs ≡ false → (c : ℕ) → c ≢ b → has_number c xs ≡ false
no_other b [] h c other = refl
no_other b (x ∷ xs) h c other = by_case (cases_eq x b) h (λ e. no_other b xs e c other)
  where
    by_case : (x ≡ b) ⊎ (x ≢ b) → (not (x == b) || list_any (λ c. not (c == b)) xs) ≡ false → (list_any (λ c. not (c == b)) xs ≡ false → has_number c xs ≡ false) → ((x == c) || has_number c xs) ≡ false
    by_case (inl is) e ih = rw (ne_eqb x c (λ q. other (sym q ∙ is))) (ih (rw (eq-eqb x b is) at e))
    by_case (inr is_not) e ih = absurd_of (rw (ne_eqb x b is_not) at e)
      where
        absurd_of : true ≡ false → ((x == c) || has_number c xs) ≡ false
        absurd_of q = cc

pub deletable_cut_off : DeletableCutOff
deletable_cut_off g b w h =
    let still = (passed (has_other_before g b || is_entered g b) _ _ (passed (not (is_block g b)) _ _ h).1).0 in
    let two = neither (has_other_before g b) (is_entered g b) still in
    let halves = neither (not (is_empty (entered_by g b))) (not (is_empty (arriving_at g b))) two.1 in
    record {
      edges = λ c other. w.edges c b ∙ no_other b (blocks_before g b) two.0 c (eqb-false c b other);
      arrivals = λ c n other has. w.arrivals n b ∙ ap (has_number n) (empty (arriving_at g b) halves.1);
      entries = λ f. w.entries f b ∙ ap (has_number f) (empty (entered_by g b) halves.0);
    }
  where
    empty : (xs : List ℕ) → not (is_empty xs) ≡ false → xs ≡ []
    empty [] e = refl
    empty (x ∷ xs) e = cc

-- one of a list of which none is cut off isn't
none_cut : (cut : ℕ → Bool) (bs : List ℕ) → list_any cut bs ≡ false → (b : ℕ) → has_number b bs ≡ true → cut b ≡ false
none_cut cut [] h b has = cc
none_cut cut (x ∷ xs) h b has = by_case (x == b) refl has (none_cut cut xs parts.1 b)
  where
    parts : (cut x ≡ false) × (list_any cut xs ≡ false)
    parts = neither (cut x) (list_any cut xs) h

    by_case : (t : Bool) → (x == b) ≡ t → (t || has_number b xs) ≡ true → (has_number b xs ≡ true → cut b ≡ false) → cut b ≡ false
    by_case true is q ih = ap cut (sym (eqb-true x b is)) ∙ parts.0
    by_case false is q ih = ih q

-- what a node of another kind owes to do the same
pub record IsSameKind (g g' : FlowGraph) (nd : Node) (k : NodeKind) : Type 0 where
  pub operands : operands_of k ≡ operands_of nd.kind
  pub arrivals : arrivals_of k ≡ arrivals_of nd.kind
  pub boxes : (vs : Vals) → box_before nd.kind vs ≡ box_before k vs
  pub does : (start : ℕ) (d : Delivered) (a : Activation) (ws : List Waiting) (s : State) → acts g start nd d a ws nd.kind s ≡ acts g start nd d a ws k s
  pub left : (entry : Option ℕ) → listed entry ≡ entry_left k → variable_left g entry ≡ variable_left g' entry

module _ (number : ℕ) (g : FlowGraph) (cut : ℕ → Bool) (off : AreCutOff g cut) (nodes : ℕ → Option Node) (conts : ℕ → Option Cont) (blocks : ℕ → Option Block) where
  pub begins_outside : (j : ℕ) (f : Function) → g.function j ≡ Some f → (c : ℕ) → has_number c f.entries ≡ true → Outside cut c 0 c 0
  begins_outside j f is c has =
      outside c 0 (none_cut cut f.entries (ap (λ (o : Option Function). list_any cut (numbers_of (λ x. x.entries) o)) (sym is) ∙ off.entries j) c has)

  abbrev pub around : Edit
  around = record {
    number = number;
    text = g;
    nodes = nodes;
    conts = conts;
    blocks = blocks;
    Spot = Outside cut;
    Held = λ d d'. d ≡ d';
    fresh = refl;
    delivering = λ k vs d d' e. ap (delivered_to k vs) e;
    entered = begins_outside;
  }

  abbrev g' : FlowGraph
  g' = with_others g nodes conts blocks

  abbrev pub no_rank : ℕ → ℕ → ℕ
  no_rank c i = 0

  -- the graph reads the same outside these blocks
  pub record ReadsTheSame : Type 0 where
    pub same_nodes : (c : ℕ) → cut c ≡ false → nodes_in g' c ≡ nodes_in g c
    pub same_after : (c : ℕ) → cut c ≡ false → blocks_after g' c ≡ blocks_after g c
    pub same_assertions : (k : ℕ) → assertions_on (g.cont k) ≡ assertions_on (conts k)

  all_begin : (bs : List ℕ) → list_any cut bs ≡ false → AllArrive around number bs
  all_begin [] h = tt
  all_begin (c ∷ bs) h = let parts = neither (cut c) (list_any cut bs) h in ((λ is. outside c 0 parts.0), all_begin bs parts.1)

  module _ (reads : ReadsTheSame) (c i : ℕ) (other : cut c ≡ false) {d d' : Delivered} (e : d ≡ d') where
    same_got : (j : ℕ) → slice_get (nodes_in g' c) j ≡ slice_get (nodes_in g c) j
    same_got j = ap (λ (xs : List ℕ). slice_get xs j) (reads.same_nodes c other)

    choosing : Chooses around number (slice_get (nodes_in g c) (suc i)) (slice_get (nodes_in g' c) (suc i)) (blocks_after g c) (blocks_after g' c)
    choosing =
        subst (λ (o : Option ℕ). Chooses around number (slice_get (nodes_in g c) (suc i)) o (blocks_after g c) (blocks_after g' c)) (sym (same_got (suc i)))
        (subst (λ (bs : List ℕ). Chooses around number (slice_get (nodes_in g c) (suc i)) (slice_get (nodes_in g c) (suc i)) (blocks_after g c) bs) (sym (reads.same_after c other))
        (chooses_same around number (slice_get (nodes_in g c) (suc i)) (blocks_after g c) (all_begin (blocks_after g c) (off.edges c other))))

    pub end_turn : slice_get (nodes_in g c) i ≡ None → Turn around no_rank c i c i d d'
    end_turn got = ends (ap (named g.node) got) (ap (named nodes) (same_got i ∙ got)) (outside c i other) e (sym (reads.same_after c other)) (all_begin (blocks_after g c) (off.edges c other))

    pub node_turn : (m : ℕ) (nd : Node) (k : NodeKind) (x : ℕ) → slice_get (nodes_in g c) i ≡ Some m → g.node m ≡ Some nd → nodes m ≡ Some (of_kind k x nd) → IsSameKind g g' nd k → Turn around no_rank c i c i d d'
    node_turn m nd k x got is is' same =
        let ks = operands_of nd.kind in
        runs nd k x (outside c i other) (record {
          at = ap (named g.node) got ∙ is;
          at' = ap (named nodes) (same_got i ∙ got) ∙ is';
          on = outside c (suc i) other;
          taken = ap (λ (y : Delivered). without_all ks y) e ∙ ap (λ (xs : List ℕ). without_all xs d') (sym same.operands);
          tests = λ f.
              ap (λ (y : Delivered). box_before nd.kind (first_values y ks) >> test_operands g f y ks) e
              ∙ (ap (λ (xs : List ℕ). box_before nd.kind (first_values d' xs) >> test_operands g f d' ks) (sym same.operands)
              ∙ (ap (λ (t : Effect (Unit {0})). box_before nd.kind (first_values d' (operands_of k)) >> t)
              (tests_pass g g' f d' d' (λ y. y) ks (λ j has. (reads.same_assertions j, refl)) ∙ ap (test_operands g' f d') (map-id ks ∙ sym same.operands))
              ∙ ap (λ (t : Effect (Unit {0})). t >> test_operands g' f d' (operands_of k)) (same.boxes (first_values d' (operands_of k)))));
          does = λ start a ws s. ap (λ (y : Delivered). acts g start nd y a ws nd.kind s) e ∙ same.does start d' a ws s;
          fits = fits_by around g g' number c i c i k (λ t. choosing) (all_begin (arrivals_of k) (ap (list_any cut) same.arrivals ∙ (ap (λ (o : Option Node). list_any cut (numbers_of (λ y. arrivals_of y.kind) o)) (sym is) ∙ off.arrivals c m other (got_has (nodes_in g c) i m got)))) same.left;
        })

  -- ---- where a run stands

  abbrev IsAway : Machine → Type 0
  IsAway m = m.control ≡ Going → m.here.graph ≡ number → cut m.here.block ≡ false

  away_spot : {c i c' i' : ℕ} → Outside cut c i c' i' → cut c ≡ false
  away_spot (outside c i other) = other

  pub away : {m m' : Machine} → Alike around m m' → IsAway m
  away (alike c u s (elsewhere a other) w) going here = absurd (other here)
  away (alike c u s (within us born f spot held) w) going here = away_spot spot
  away (call tail k closed vs entry frame s p w) going here = cc
  away (rests c a a' s u) going here = absurd (subst Rests going u)
