-- Each edit keeps a graph well made while it is built. (This project's own.)
use Rattle.std.proofs.Common.{◌≡◌, ◌≢◌, ◌≤◌, ◌⊎◌, ℕ, Bool, true, false, ◌||◌, List, [], ◌∷◌, ◌++◌, length, Option, Some, None, is_some, refl, sym, ap, subst, ◌∙◌, inl, inr, arith}
use Rattle.std.specs.Prelude.{Result, Ok, Err, IfOk, OnErr}
use Rattle.std.specs.List.{list_any, list_all}
use Rattle.std.proofs.lemmas.Bool.{cases_eq, and_parts, and_from, true≢false}
use Rattle.ir_ids.specs.Entries.{with_entry}
use Rattle.icr_graph.specs.declared.nodes.Node.{Node}
use Rattle.icr_graph.specs.declared.nodes.NodeKind.{NodeKind}
use Rattle.icr_graph.specs.declared.nodes.NodeKind.TheVariants as kind
use Rattle.icr_graph.specs.declared.parts.Assertion.{Assertion}
use Rattle.icr_graph.specs.declared.parts.Block.{Block}
use Rattle.icr_graph.specs.declared.parts.Cont.{Cont}
use Rattle.icr_graph.specs.declared.parts.Defined.{Defined}
use Rattle.icr_graph.specs.declared.parts.Function.{Function}
use Rattle.icr_graph.specs.Lists.{numbers_of, changed, touched, last_alone}
use Rattle.icr_graph.specs.Kinds.{operands_of, arrivals_of, is_if}
use Rattle.icr_graph.specs.Faults.{is_node, link_fault}
use Rattle.icr_graph.specs.Splitting.{ends_with_if, is_if_node}
use Rattle.icr_graph.specs.Edits.{linked, taken_by}
use Rattle.icr_graph.specs.Building.{empty_block, empty_cont, with_block, with_cont, holding, arriving_from, with_node, delivering_to, used_by, delivered, asserting, with_assertion, entry_of_function, naming_entry, naming_exit, leaving_entry, left_by_exit, paired}
use Rattle.icr_graph.specs.Plain.{FlowGraph, graph_of, nodes_in, blocks_after}
use Rattle.graph_meaning.specs.Reading.{assertions_on}
use Rattle.graph_building.specs.Steps.{with_code_at}
use Rattle.graph_building.specs.Orderly.{AllChecked, Few, FewSuccessors, EndsWith, Settled, Sound}
use Rattle.graph_building.proofs.Entries.{There, other_number, entry_other, changed_other, changed_has, changed_reads, touched_reads, entry_reads, changed_holds, touched_holds, entry_holds}
use Rattle.graph_building.proofs.Parts.{nothing, block_after, code_after, linked_nodes, linked_after, linked_after_other}
use Rattle.graph_building.proofs.NewNodes.{node_after}

-- ---- what an edit keeps

-- The nodes of each block but one, the blocks after each block, and which nodes are an If, stay; and so does it that every
-- assertion is checked.
pub record Kept (block : ℕ) (g h : FlowGraph) : Type 0 where
  pub nodes : (b : ℕ) → b ≢ block → nodes_in h b ≡ nodes_in g b
  pub after : (b : ℕ) → blocks_after h b ≡ blocks_after g b
  pub checked : AllChecked g → AllChecked h
  pub ifs : (n : ℕ) (x : Node) → g.node n ≡ Some x → There (λ (y : Node). is_if y.kind ≡ is_if x.kind) (h.node n)

module _ (g h : FlowGraph) (ifs : (n : ℕ) (x : Node) → g.node n ≡ Some x → There (λ (y : Node). is_if y.kind ≡ is_if x.kind) (h.node n)) where
  node_stays : (o : Option Node) (n : ℕ) → g.node n ≡ o → is_some o ≡ true → (is_some (h.node n) ≡ true) × (is_if_node (h.node n) ≡ is_if_node o)
  node_stays None n e there = cc
  node_stays (Some x) n e there = let y = ifs n x e in (ap is_some y.1, ap is_if_node y.1 ∙ y.2)

  all_stay : (ns : List ℕ) → list_all (is_node g) ns ≡ true → list_all (is_node h) ns ≡ true
  all_stay [] e = refl
  all_stay (n ∷ ns) e =
      let parts = and_parts (is_node g n) (list_all (is_node g) ns) e in
      and_from _ _ (node_stays (g.node n) n refl parts.0).0 (all_stay ns parts.1)

  any_stays : (ns : List ℕ) → list_all (is_node g) ns ≡ true → list_any (λ n. is_if_node (h.node n)) ns ≡ list_any (λ n. is_if_node (g.node n)) ns
  any_stays [] e = refl
  any_stays (n ∷ ns) e =
      let parts = and_parts (is_node g n) (list_all (is_node g) ns) e in
      ap (λ (x : Bool). x || list_any (λ m. is_if_node (h.node m)) ns) (node_stays (g.node n) n refl parts.0).1
      ∙ ap (λ (x : Bool). is_if_node (g.node n) || x) (any_stays ns parts.1)

  module _ (b : ℕ) (nodes : nodes_in h b ≡ nodes_in g b) (there : list_all (is_node g) (last_alone (nodes_in g b)) ≡ true) where
    there_stays : list_all (is_node h) (last_alone (nodes_in h b)) ≡ true
    there_stays = ap (λ (ns : List ℕ). list_all (is_node h) (last_alone ns)) nodes ∙ all_stay (last_alone (nodes_in g b)) there

    ending_stays : ends_with_if h b ≡ ends_with_if g b
    ending_stays = ap (λ (ns : List ℕ). list_any (λ n. is_if_node (h.node n)) (last_alone ns)) nodes ∙ any_stays (last_alone (nodes_in g b)) there

  settled_stays : (b : ℕ) → nodes_in h b ≡ nodes_in g b → blocks_after h b ≡ blocks_after g b → Settled g b → Settled h b
  settled_stays b nodes after settled =
      record {
        there = there_stays b nodes settled.there;
        few = record {
          forks = λ e. ap length after ∙ settled.few.forks (sym (ending_stays b nodes settled.there) ∙ e);
          others = λ e. subst (λ (bs : List ℕ). length bs ≤ 1) (sym after) (settled.few.others (sym (ending_stays b nodes settled.there) ∙ e));
        };
      }

pub sound_kept : (half_forked : Bool) (g h : FlowGraph) (block : ℕ) → Kept block g h → Sound half_forked g block → Sound half_forked h block
sound_kept half_forked g h block kept sound =
    record {
      none = kept.after block ∙ sound.none;
      checked = kept.checked sound.checked;
      settled = λ whole b other. settled_stays g h kept.ifs b (kept.nodes b other) (kept.after b) (sound.settled whole b other);
    }

pub sound_at : (half_forked : Bool) (g h : FlowGraph) (block : ℕ) → h ≡ g → Sound half_forked g block → Sound half_forked h block
sound_at half_forked g h block same sound = subst (λ (j : FlowGraph). Sound half_forked j block) (sym same) sound

-- ---- edits that may be refused

module _ {T E : Type 0} (half_forked : Bool) (g h : FlowGraph) (block : ℕ) (edited : T → FlowGraph) where
  pub sound_where : (r : Result T E) (P : T → Type 0) → ((x : T) → P x → Kept block g (edited x)) → IfOk r P → IfOk r (λ x. h ≡ edited x) → OnErr r (h ≡ g) → Sound half_forked g block → Sound half_forked h block
  sound_where (Ok x) P kept so is same sound = sound_at half_forked (edited x) h block is (sound_kept half_forked g (edited x) block (kept x so) sound)
  sound_where (Err e) P kept so is same sound = sound_at half_forked g h block same sound

  pub sound_stays : (r : Result T E) → ((x : T) → Kept block g (edited x)) → IfOk r (λ x. h ≡ edited x) → OnErr r (h ≡ g) → Sound half_forked g block → Sound half_forked h block
  sound_stays (Ok x) kept is same sound = sound_at half_forked (edited x) h block is (sound_kept half_forked g (edited x) block (kept x) sound)
  sound_stays (Err e) kept is same sound = sound_at half_forked g h block same sound

-- ---- each edit

-- one that changes neither blocks nor continuations nor nodes
pub others_kept : (block : ℕ) (g h : FlowGraph) → h.block ≡ g.block → h.cont ≡ g.cont → h.node ≡ g.node → Kept block g h
others_kept block g h blocks conts nodes =
    record {
      nodes = λ b other. ap (λ (m : ℕ → Option Block). numbers_of (λ (x : Block). x.nodes) (m b)) blocks;
      after = λ b. ap (λ (m : ℕ → Option Block). numbers_of (λ (x : Block). x.after) (m b)) blocks;
      checked = λ checked k. ap (λ (m : ℕ → Option Cont). list_all (λ (a : Assertion). a.checked) (assertions_on (m k))) conts ∙ checked k;
      ifs = λ n x e. (x, ap (λ (m : ℕ → Option Node). m n) nodes ∙ e, refl);
    }

pub block_kept : (block : ℕ) (g : FlowGraph) (n : ℕ) → g.block n ≡ None → Kept block g (with_block n g)
block_kept block g n vacant =
    record {
      nodes = λ b other. entry_reads (λ (x : Block). x.nodes) g.block n empty_block b vacant refl;
      after = λ b. block_after g n b vacant;
      checked = λ checked. checked;
      ifs = λ m x e. (x, e, refl);
    }

pub code_kept : (block : ℕ) (g : FlowGraph) (f n : ℕ) (function : Function) → g.block n ≡ None → Kept block g (with_code_at f n function g)
code_kept block g f n function vacant =
    record {
      nodes = λ b other.
          changed_reads (λ (x : Block). x.nodes) (entry_of_function f) n (with_entry g.block n (Some empty_block)) b (λ x. refl)
          ∙ entry_reads (λ (x : Block). x.nodes) g.block n empty_block b vacant refl;
      after = λ b. code_after g f n function b vacant;
      checked = λ checked. checked;
      ifs = λ m x e. (x, e, refl);
    }

-- every assertion on what may be a continuation is checked
abbrev IsChecked : Option Cont → Type 0
IsChecked o = list_all (λ (a : Assertion). a.checked) (assertions_on o) ≡ true

pub cont_kept : (block : ℕ) (g : FlowGraph) (k : ℕ) → Kept block g (with_cont k g)
cont_kept block g k =
    record {
      nodes = λ b other. refl;
      after = λ b. refl;
      checked = λ checked j. entry_holds IsChecked g.cont k j (Some empty_cont) refl (checked j);
      ifs = λ n x e. (x, e, refl);
    }

pub assertion_kept : (block : ℕ) (g : FlowGraph) (k : ℕ) (assertion : Assertion) → assertion.checked ≡ true → Kept block g (with_assertion k assertion g)
assertion_kept block g k assertion on =
    record {
      nodes = λ b other. refl;
      after = λ b. refl;
      checked = λ checked j. changed_holds IsChecked (asserting assertion) k g.cont j (λ x all. one_more x.asserts all) (checked j);
      ifs = λ n x e. (x, e, refl);
    }
  where
    one_more : (xs : List Assertion) → list_all (λ (a : Assertion). a.checked) xs ≡ true → list_all (λ (a : Assertion). a.checked) (xs ++ assertion ∷ []) ≡ true
    one_more [] all = and_from assertion.checked true on refl
    one_more (x ∷ xs) all =
        let parts = and_parts x.checked (list_all (λ (a : Assertion). a.checked) xs) all in
        and_from _ _ parts.0 (one_more xs parts.1)

pub node_kept : (g : FlowGraph) (n : ℕ) (nd : Node) → g.node n ≡ None → Kept nd.block g (with_node n nd g)
node_kept g n nd vacant =
    record {
      nodes = λ b other.
          ap (numbers_of (λ (x : Block). x.nodes)) (changed_other (holding n) nd.block (touched (arrivals_of nd.kind) (arriving_from n) g.block) b other)
          ∙ touched_reads (λ (x : Block). x.nodes) (arriving_from n) (arrivals_of nd.kind) g.block b (λ x. refl);
      after = node_after g n nd;
      checked = λ checked k. touched_holds IsChecked (taken_by (Some n)) (operands_of nd.kind) g.cont k (λ x all. all) (checked k);
      ifs = λ m x e. (x, entry_other g.node n m (Some nd) (other_number g.node n m x vacant e) ∙ e, refl);
    }

pub delivery_kept : (block : ℕ) (g : FlowGraph) (n k : ℕ) → Kept block g (delivered n k g)
delivery_kept block g n k =
    record {
      nodes = λ b other. refl;
      after = λ b. refl;
      checked = λ checked j. changed_holds IsChecked (used_by n) k g.cont j (λ x all. all) (checked j);
      ifs = λ m x e. changed_has (λ (y : Node). is_if y.kind ≡ is_if x.kind) (delivering_to k) n g.node m (λ same y is. is) (x, e, refl);
    }

pub pair_kept : (block : ℕ) (g : FlowGraph) (exit entry : ℕ) → Kept block g (paired exit entry g)
pair_kept block g exit entry =
    record {
      nodes = λ b other. refl;
      after = λ b. refl;
      checked = λ checked. checked;
      ifs = λ m x e.
          changed_has (λ (y : Node). is_if y.kind ≡ is_if x.kind) (leaving_entry entry) exit (changed (left_by_exit exit) entry g.node) m (λ same y is. with_entry_named y.kind ∙ is)
          (changed_has (λ (y : Node). is_if y.kind ≡ is_if x.kind) (left_by_exit exit) entry g.node m (λ same y is. with_exit_named y.kind ∙ is) (x, e, refl));
    }
  where
    with_entry_named : (k : NodeKind) → is_if (naming_entry entry k) ≡ is_if k
    with_entry_named (kind.Exit way e) = refl
    with_entry_named k = refl

    with_exit_named : (k : NodeKind) → is_if (naming_exit exit k) ≡ is_if k
    with_exit_named (kind.Entry x exits) = refl
    with_exit_named k = refl

-- ---- a graph that is begun

pub nothing_sound : (size copies : ℕ) (defines : Option Defined) (block : ℕ) → Sound false (graph_of (nothing size copies defines)) block
nothing_sound size copies defines block =
    record {
      none = refl;
      checked = λ k. refl;
      settled = λ whole b other. record { there = refl; few = record { forks = λ e. cc; others = λ e. omega arith } };
    }

-- ---- blocks that end

-- no fork follows a block that ends with no If
plain_few : (g : FlowGraph) (b : ℕ) → ends_with_if g b ≡ false → length (blocks_after g b) ≤ 1 → Few g b
plain_few g b is few = record { forks = λ e. absurd (true≢false (sym e ∙ is)); others = λ e. few }

module _ (half_forked : Bool) (g : FlowGraph) (block : ℕ) (sound : Sound half_forked g block) where
  none_few : EndsWith false g block → Few g block
  none_few ends = plain_few g block ends.is (subst (λ (bs : List ℕ). length bs ≤ 1) (sym sound.none) (omega arith))

  -- nodes are added to another block
  pub begins_sound : (start : ℕ) → EndsWith false g block → blocks_after g start ≡ [] → Sound half_forked g start
  begins_sound start ends none =
      record {
        none = none;
        checked = sound.checked;
        settled = λ whole b other. by_case whole b (cases_eq b block);
      }
    where
      by_case : half_forked ≡ false → (b : ℕ) → (b ≡ block) ⊎ (b ≢ block) → Settled g b
      by_case whole b (inl same) = subst (Settled g) (sym same) (record { there = ends.there; few = none_few ends })
      by_case whole b (inr other) = sound.settled whole b other

  -- every other block stays as it is where an edge is added
  edge_settled : (to b : ℕ) → b ≢ block → Settled g b → Settled (linked block to g) b
  edge_settled to b other settled = settled_stays g (linked block to g) (λ n x e. (x, e, refl)) b (linked_nodes g block to b) (linked_after_other g block to b other) settled

  -- the block goes on at one
  pub goes_on_sound : (to start : ℕ) → EndsWith false g block → link_fault g block to ≡ None → blocks_after g start ≡ [] → start ≢ block → Sound half_forked (linked block to g) start
  goes_on_sound to start ends allowed none away =
      record {
        none = linked_after_other g block to start away ∙ none;
        checked = sound.checked;
        settled = λ whole b other. by_case whole b (cases_eq b block);
      }
    where
      after : blocks_after (linked block to g) block ≡ to ∷ []
      after = linked_after g block to allowed ∙ ap (λ (bs : List ℕ). bs ++ to ∷ []) sound.none

      nodes : nodes_in (linked block to g) block ≡ nodes_in g block
      nodes = linked_nodes g block to block

      ended : Settled (linked block to g) block
      ended =
          record {
            there = there_stays g (linked block to g) (λ n x e. (x, e, refl)) block nodes ends.there;
            few = plain_few (linked block to g) block (ending_stays g (linked block to g) (λ n x e. (x, e, refl)) block nodes ends.there ∙ ends.is) (subst (λ (bs : List ℕ). length bs ≤ 1) (sym after) (omega arith));
          }

      by_case : half_forked ≡ false → (b : ℕ) → (b ≡ block) ⊎ (b ≢ block) → Settled (linked block to g) b
      by_case whole b (inl same) = subst (Settled (linked block to g)) (sym same) ended
      by_case whole b (inr other) = edge_settled to b other (sound.settled whole b other)

  -- a fork that failed at its second edge
  pub half_sound : (yes_block : ℕ) → blocks_after g yes_block ≡ [] → yes_block ≢ block → Sound true (linked block yes_block g) yes_block
  half_sound yes_block none away =
      record {
        none = linked_after_other g block yes_block yes_block away ∙ none;
        checked = sound.checked;
        settled = λ whole. absurd (true≢false whole);
      }

-- the block goes on at one of two
pub forks_sound : (g : FlowGraph) (block yes_block no_block : ℕ) → Sound false g block → EndsWith true g block →
    link_fault g block yes_block ≡ None → link_fault (linked block yes_block g) block no_block ≡ None → blocks_after g yes_block ≡ [] → yes_block ≢ block →
    Sound false (linked block no_block (linked block yes_block g)) yes_block
forks_sound g block yes_block no_block sound ends allowed allowed_too none away =
    record {
      none = linked_after_other (linked block yes_block g) block no_block yes_block away ∙ linked_after_other g block yes_block yes_block away ∙ none;
      checked = sound.checked;
      settled = λ whole b other. by_case b (cases_eq b block);
    }
  where
    h : FlowGraph
    h = linked block no_block (linked block yes_block g)

    after : blocks_after h block ≡ yes_block ∷ no_block ∷ []
    after =
        linked_after (linked block yes_block g) block no_block allowed_too
        ∙ ap (λ (bs : List ℕ). bs ++ no_block ∷ []) (linked_after g block yes_block allowed ∙ ap (λ (bs : List ℕ). bs ++ yes_block ∷ []) sound.none)

    nodes : (b : ℕ) → nodes_in h b ≡ nodes_in g b
    nodes b = linked_nodes (linked block yes_block g) block no_block b ∙ linked_nodes g block yes_block b

    ending : ends_with_if h block ≡ true
    ending = ending_stays g h (λ n x e. (x, e, refl)) block (nodes block) ends.there ∙ ends.is

    ended : Settled h block
    ended =
        record {
          there = there_stays g h (λ n x e. (x, e, refl)) block (nodes block) ends.there;
          few = record { forks = λ e. ap length after; others = λ e. absurd (true≢false (sym ending ∙ e)) };
        }

    by_case : (b : ℕ) → (b ≡ block) ⊎ (b ≢ block) → Settled h b
    by_case b (inl same) = subst (Settled h) (sym same) ended
    by_case b (inr other) =
        settled_stays g h (λ n x e. (x, e, refl)) b (nodes b)
        (linked_after_other (linked block yes_block g) block no_block b other ∙ linked_after_other g block yes_block b other) (sound.settled refl b other)

-- ---- the graph that is built

pub few_successors : (g : FlowGraph) (block : ℕ) → Sound false g block → EndsWith false g block → FewSuccessors g
few_successors g block sound ends b = by_case (cases_eq b block)
  where
    by_case : (b ≡ block) ⊎ (b ≢ block) → Few g b
    by_case (inl same) = subst (Few g) (sym same) (none_few false g block sound ends)
    by_case (inr other) = (sound.settled refl b other).few
