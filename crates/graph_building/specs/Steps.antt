-- The steps of which each call consists. (This project's own.)
use Rattle.std.specs.Prelude.{◌≡◌, ℕ, suc, ◌≤◌, true, [], Option, Some, None}
use Rattle.icr_graph.specs.declared.nodes.Node.{Node}
use Rattle.icr_graph.specs.declared.parts.Function.{Function}
use Rattle.icr_graph.specs.Plain.{FlowGraph, nodes_in, blocks_after}
use Rattle.icr_graph.specs.Faults.{is_block}
use Rattle.icr_graph.specs.Building.{with_block, with_cont, with_node, with_function, delivered, entered_at, paired}
use Rattle.graph_building.specs.Built.{Built, graph}

-- the graph becomes this, and all else stays
pub record Becomes (edited : FlowGraph → FlowGraph) (a b : Built) : Type 0 where
  pub is : graph b ≡ edited (graph a)
  pub block : b.block ≡ a.block
  pub fresh : b.fresh ≡ a.fresh

-- a continuation without assertions, under a number above those before it
pub record AddsCont (a b : Built) (k : ℕ) : Type 0 where
  pub vacant : (graph a).cont k ≡ None
  pub is : graph b ≡ with_cont k (graph a)
  pub block : b.block ≡ a.block
  pub above : a.fresh ≤ k
  pub fresh : b.fresh ≡ suc k

-- a node is the last of the block to which nodes are added
pub record AddsNode (x : Node) (a b : Built) (n : ℕ) : Type 0 where
  pub vacant : (graph a).node n ≡ None
  pub live : is_block (graph a) a.block ≡ true
  pub after : blocks_after (graph a) a.block ≡ []
  pub becomes : Becomes (with_node n x) a b

-- a node delivers to a continuation, if there is one
abbrev pub delivering : ℕ → Option ℕ → FlowGraph → FlowGraph
delivering n None g = g
delivering n (Some k) g = delivered n k g

-- an exit names its entry, if there is one
abbrev pub pairing : ℕ → Option ℕ → FlowGraph → FlowGraph
pairing n None g = g
pairing n (Some entry) g = paired n entry g

-- a new function, whose code begins at a new block
abbrev pub with_code_at : (f b : ℕ) → Function → FlowGraph → FlowGraph
with_code_at f b x g = entered_at f b (with_block b (with_function f x g))

pub record AddsFunction (x : Function) (g h : FlowGraph) (f b : ℕ) : Type 0 where
  pub vacant : g.function f ≡ None
  pub no_block : g.block b ≡ None
  pub is : h ≡ with_code_at f b x g

-- nodes may be added to the block, which has none, and no block follows it
pub record IsOpen (g : FlowGraph) (b : ℕ) : Type 0 where
  pub nodes : nodes_in g b ≡ []
  pub after : blocks_after g b ≡ []
