-- What an edit makes of a graph is later, and of the same form. (This project's own.)
use Rattle.std.proofs.Common.{◌≡◌, ◌≢◌, ℕ, List, [], ◌∷◌, ◌++◌, Option, Some, None, refl, sym, ap, subst, ◌∙◌, append-nil, append_assoc}
use Rattle.icr_graph.specs.declared.nodes.Node.{Node}
use Rattle.icr_graph.specs.declared.nodes.NodeKind.{NodeKind}
use Rattle.icr_graph.specs.declared.nodes.NodeKind.TheVariants as kind
use Rattle.icr_graph.specs.declared.parts.Assertion.{Assertion}
use Rattle.icr_graph.specs.declared.parts.Block.{Block}
use Rattle.icr_graph.specs.declared.parts.Cont.{Cont}
use Rattle.icr_graph.specs.declared.parts.Function.{Function}
use Rattle.icr_graph.specs.declared.parts.Variable.{Variable}
use Rattle.icr_graph.specs.Lists.{numbers_of, changed, touched}
use Rattle.ir_ids.specs.Entries.{with_entry}
use Rattle.icr_graph.specs.Kinds.{operands_of, arrivals_of}
use Rattle.icr_graph.specs.Edits.{followed_by, preceded_by, linked, taken_by}
use Rattle.icr_graph.specs.Building.{empty_block, empty_cont, with_block, with_cont, with_variable, holding, arriving_from, with_node, delivering_to, used_by, asserting, with_assertion, beginning_at, entry_of_function, naming_exit, leaving_entry, left_by_exit}
use Rattle.icr_graph.specs.Plain.{FlowGraph, blocks_after}
use Rattle.graph_building.specs.Later.{SameKind, SameNode, SameBlock, Later, SameForm}
use Rattle.graph_building.specs.Steps.{delivering, pairing, with_code_at}
use Rattle.graph_building.proofs.Entries.{There, other_number, entry_other, changed_other, changed_has, touched_has, entry_has}
use Rattle.graph_building.proofs.Later.{same_kind_trans, same_node_refl, same_block_refl}

-- ---- what one change keeps of a block or a node

-- the same nodes, and the same blocks after it
same_places : (x y z : Block) → z.nodes ≡ y.nodes → z.after ≡ y.after → SameBlock x y → SameBlock x z
same_places x y z nodes_same after_same kept =
    record {
      more = kept.more;
      nodes = nodes_same ∙ kept.nodes;
      ended = λ (h : x.after ≢ []).
          let same : (y.nodes ≡ x.nodes) × (y.after ≡ x.after) = kept.ended h in
          (nodes_same ∙ same.0, after_same ∙ same.1);
    }

-- more nodes, or blocks after it, of a block that no block follows
still_open : (x y z : Block) (more : List ℕ) → x.after ≡ [] → z.nodes ≡ y.nodes ++ more → SameBlock x y → SameBlock x z
still_open x y z more none nodes_more kept =
    record {
      more = kept.more ++ more;
      nodes = nodes_more ∙ ap (λ (ns : List ℕ). ns ++ more) kept.nodes ∙ append_assoc x.nodes kept.more more;
      ended = λ (h : x.after ≢ []). absurd (h none);
    }

-- no block follows it
after_of : (g : FlowGraph) (at b : ℕ) (x : Block) → blocks_after g at ≡ [] → g.block b ≡ Some x → b ≡ at → x.after ≡ []
after_of g at b x none there same = sym (ap (numbers_of (λ (y : Block). y.after)) (ap g.block (sym same) ∙ there)) ∙ none

-- an exit more of an entry
one_exit_more : (n : ℕ) (k : NodeKind) → SameKind k (naming_exit n k)
one_exit_more n (kind.Entry x exits) = (exits ++ n ∷ [], refl)
one_exit_more n k = refl

left_kept : (n : ℕ) (x y : Node) → SameNode x y → SameNode x (left_by_exit n y)
left_kept n x y kept =
    record {
      kind = same_kind_trans x.kind y.kind (naming_exit n y.kind) kept.kind (one_exit_more n y.kind);
      cont = kept.cont;
      block = kept.block;
      place = kept.place;
      charges = kept.charges;
    }

-- ---- blocks, continuations, variables and functions

pub block_later : (g : FlowGraph) (b : ℕ) → g.block b ≡ None → Later g (with_block b g)
block_later g b vacant =
    record {
      nodes = λ n x e. (x, e, same_node_refl x);
      conts = λ k x e. (x, e, refl);
      blocks = λ c x e. entry_has (SameBlock x) g.block b c (Some empty_block) (other_number g.block b c x vacant e) (x, e, same_block_refl x);
      functions = λ f x e. e;
      variables = λ v x e. e;
    }

pub cont_later : (g : FlowGraph) (k : ℕ) → g.cont k ≡ None → Later g (with_cont k g)
cont_later g k vacant =
    record {
      nodes = λ n x e. (x, e, same_node_refl x);
      conts = λ j x e. entry_has (λ (y : Cont). y.asserts ≡ x.asserts) g.cont k j (Some empty_cont) (other_number g.cont k j x vacant e) (x, e, refl);
      blocks = λ b x e. (x, e, same_block_refl x);
      functions = λ f x e. e;
      variables = λ v x e. e;
    }

pub asserted_later : (g : FlowGraph) (k : ℕ) (assertion : Assertion) → g.cont k ≡ None → Later g (with_assertion k assertion (with_cont k g))
asserted_later g k assertion vacant =
    record {
      nodes = λ n x e. (x, e, same_node_refl x);
      conts = λ j x e.
          let other : j ≢ k = other_number g.cont k j x vacant e in
          changed_has (λ (y : Cont). y.asserts ≡ x.asserts) (asserting assertion) k (with_entry g.cont k (Some empty_cont)) j (λ same. absurd (other same))
          (entry_has (λ (y : Cont). y.asserts ≡ x.asserts) g.cont k j (Some empty_cont) other (x, e, refl));
      blocks = λ b x e. (x, e, same_block_refl x);
      functions = λ f x e. e;
      variables = λ v x e. e;
    }

pub variable_later : (g : FlowGraph) (v : ℕ) (variable : Variable) → g.variable v ≡ None → Later g (with_variable v variable g)
variable_later g v variable vacant =
    record {
      nodes = λ n x e. (x, e, same_node_refl x);
      conts = λ k x e. (x, e, refl);
      blocks = λ b x e. (x, e, same_block_refl x);
      functions = λ f x e. e;
      variables = λ u x e. entry_other g.variable v u (Some variable) (other_number g.variable v u x vacant e) ∙ e;
    }

pub function_later : (g : FlowGraph) (f b : ℕ) (function : Function) → g.function f ≡ None → g.block b ≡ None → Later g (with_code_at f b function g)
function_later g f b function vacant no_block =
    record {
      nodes = λ n x e. (x, e, same_node_refl x);
      conts = λ k x e. (x, e, refl);
      blocks = λ c x e.
          changed_has (SameBlock x) (entry_of_function f) b (with_entry g.block b (Some empty_block)) c (λ same y kept. same_places x y (entry_of_function f y) refl refl kept)
          (entry_has (SameBlock x) g.block b c (Some empty_block) (other_number g.block b c x no_block e) (x, e, same_block_refl x));
      functions = λ h x e.
          let other : h ≢ f = other_number g.function f h x vacant e in
          changed_other (beginning_at b) f (with_entry g.function f (Some function)) h other ∙ entry_other g.function f h (Some function) other ∙ e;
      variables = λ v x e. e;
    }

-- ---- edges out of a block that no block follows

module _ (g : FlowGraph) (from : ℕ) (none : blocks_after g from ≡ []) where
  -- one edge more
  edge_kept : (to c : ℕ) (m : ℕ → Option Block) (x : Block) → g.block c ≡ Some x → There (SameBlock x) (m c) → There (SameBlock x) (changed (preceded_by from) to (changed (followed_by to) from m) c)
  edge_kept to c m x there has =
      changed_has (SameBlock x) (preceded_by from) to (changed (followed_by to) from m) c (λ same y kept. same_places x y (preceded_by from y) refl refl kept)
      (changed_has (SameBlock x) (followed_by to) from m c (λ same y kept. still_open x y (followed_by to y) [] (after_of g from c x none there same) (sym (append-nil y.nodes)) kept) has)

  pub linked_later : (to : ℕ) → Later g (linked from to g)
  linked_later to =
      record {
        nodes = λ n x e. (x, e, same_node_refl x);
        conts = λ k x e. (x, e, refl);
        blocks = λ c x e. edge_kept to c g.block x e (x, e, same_block_refl x);
        functions = λ f x e. e;
        variables = λ v x e. e;
      }

  pub forked_later : (yes_block no_block : ℕ) → Later g (linked from no_block (linked from yes_block g))
  forked_later yes_block no_block =
      record {
        nodes = λ n x e. (x, e, same_node_refl x);
        conts = λ k x e. (x, e, refl);
        blocks = λ c x e. edge_kept no_block c (linked from yes_block g).block x e (edge_kept yes_block c g.block x e (x, e, same_block_refl x));
        functions = λ f x e. e;
        variables = λ v x e. e;
      }

-- ---- nodes

-- all but nodes and continuations is the same
pub record SameRest (g h : FlowGraph) : Type 0 where
  pub block : h.block ≡ g.block
  pub function : h.function ≡ g.function
  pub variable : h.variable ≡ g.variable
  pub form : SameForm g h

same_form : (g h : FlowGraph) → h.size ≡ g.size → h.copies ≡ g.copies → h.lambdas ≡ g.lambdas → h.code ≡ g.code → h.defines ≡ g.defines → SameForm g h
same_form g h size copies lambdas code defines = record { size = size; copies = copies; lambdas = lambdas; code = code; defines = defines }

pub joined_rest : (n : ℕ) (entry to : Option ℕ) (h : FlowGraph) → SameRest h (delivering n to (pairing n entry h))
joined_rest n None None h = record { block = refl; function = refl; variable = refl; form = same_form _ _ refl refl refl refl refl }
joined_rest n None (Some k) h = record { block = refl; function = refl; variable = refl; form = same_form _ _ refl refl refl refl refl }
joined_rest n (Some t) None h = record { block = refl; function = refl; variable = refl; form = same_form _ _ refl refl refl refl refl }
joined_rest n (Some t) (Some k) h = record { block = refl; function = refl; variable = refl; form = same_form _ _ refl refl refl refl refl }

-- other nodes stay
pairing_keeps : (n : ℕ) (entry : Option ℕ) (h : FlowGraph) (m : ℕ) (x : Node) → m ≢ n → There (SameNode x) (h.node m) → There (SameNode x) ((pairing n entry h).node m)
pairing_keeps n None h m x other has = has
pairing_keeps n (Some t) h m x other has =
    changed_has (SameNode x) (leaving_entry t) n (changed (left_by_exit n) t h.node) m (λ same. absurd (other same))
    (changed_has (SameNode x) (left_by_exit n) t h.node m (λ same y kept. left_kept n x y kept) has)

delivering_keeps : (n : ℕ) (to : Option ℕ) (h : FlowGraph) (m : ℕ) (x : Node) → m ≢ n → There (SameNode x) (h.node m) → There (SameNode x) ((delivering n to h).node m)
delivering_keeps n None h m x other has = has
delivering_keeps n (Some k) h m x other has = changed_has (SameNode x) (delivering_to k) n h.node m (λ same. absurd (other same)) has

-- so do assertions
delivering_conts : (n : ℕ) (entry to : Option ℕ) (h : FlowGraph) (k : ℕ) (x : Cont) → There (λ (y : Cont). y.asserts ≡ x.asserts) (h.cont k) → There (λ (y : Cont). y.asserts ≡ x.asserts) ((delivering n to (pairing n entry h)).cont k)
delivering_conts n None None h k x has = has
delivering_conts n (Some t) None h k x has = has
delivering_conts n None (Some j) h k x has = changed_has (λ (y : Cont). y.asserts ≡ x.asserts) (used_by n) j h.cont k (λ same y kept. kept) has
delivering_conts n (Some t) (Some j) h k x has = changed_has (λ (y : Cont). y.asserts ≡ x.asserts) (used_by n) j h.cont k (λ same y kept. kept) has

module _ (g : FlowGraph) (n : ℕ) (nd : Node) (vacant : g.node n ≡ None) (none : blocks_after g nd.block ≡ []) where
  held_kept : (b : ℕ) (x : Block) → g.block b ≡ Some x → There (SameBlock x) ((with_node n nd g).block b)
  held_kept b x e =
      changed_has (SameBlock x) (holding n) nd.block (touched (arrivals_of nd.kind) (arriving_from n) g.block) b (λ same y kept. still_open x y (holding n y) (n ∷ []) (after_of g nd.block b x none e same) refl kept)
      (touched_has (SameBlock x) (arriving_from n) (arrivals_of nd.kind) g.block b (λ y kept. same_places x y (arriving_from n y) refl refl kept) (x, e, same_block_refl x))

  -- a node at the end of its block, joined to its entry and its continuation
  pub node_later : (entry to : Option ℕ) → Later g (delivering n to (pairing n entry (with_node n nd g)))
  node_later entry to =
      let rest = joined_rest n entry to (with_node n nd g) in
      record {
        nodes = λ m x e.
            let other : m ≢ n = other_number g.node n m x vacant e in
            delivering_keeps n to (pairing n entry (with_node n nd g)) m x other
            (pairing_keeps n entry (with_node n nd g) m x other (entry_has (SameNode x) g.node n m (Some nd) other (x, e, same_node_refl x)));
        conts = λ k x e.
            delivering_conts n entry to (with_node n nd g) k x
            (touched_has (λ (y : Cont). y.asserts ≡ x.asserts) (taken_by (Some n)) (operands_of nd.kind) g.cont k (λ y kept. kept) (x, e, refl));
        blocks = λ b x e. subst (λ (m : ℕ → Option Block). There (SameBlock x) (m b)) (sym rest.block) (held_kept b x e);
        functions = λ f x e. ap (λ (m : ℕ → Option Function). m f) rest.function ∙ e;
        variables = λ v x e. ap (λ (m : ℕ → Option Variable). m v) rest.variable ∙ e;
      }
