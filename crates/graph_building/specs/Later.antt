-- What of a graph stays while more of it is built. (This project's own.)
use Rattle.std.specs.Prelude.{◌≡◌, ◌≢◌, ℕ, List, [], ◌++◌, Some}
use Rattle.icr_graph.specs.declared.nodes.Node.{Node}
use Rattle.icr_graph.specs.declared.nodes.NodeKind.{NodeKind}
use Rattle.icr_graph.specs.declared.nodes.NodeKind.TheVariants as kind
use Rattle.icr_graph.specs.declared.parts.Block.{Block}
use Rattle.icr_graph.specs.declared.parts.Cont.{Cont}
use Rattle.icr_graph.specs.declared.parts.Function.{Function}
use Rattle.icr_graph.specs.declared.parts.Variable.{Variable}
use Rattle.icr_graph.specs.Plain.{FlowGraph}

-- the same kind of node, but that an entry may have got further exits
abbrev pub SameKind : NodeKind → NodeKind → Type 0
SameKind (kind.Entry x exits) k = (others : List ℕ) × (k ≡ kind.Entry x others)
SameKind k k' = k' ≡ k

pub record SameNode (x y : Node) : Type 0 where
  pub kind : SameKind x.kind y.kind
  pub cont : y.cont ≡ x.cont
  pub block : y.block ≡ x.block
  pub place : y.place ≡ x.place
  pub charges : y.charges ≡ x.charges

-- A block may get further nodes until it has a block after it; from then on it stays.
pub record SameBlock (x y : Block) : Type 0 where
  pub more : List ℕ
  pub nodes : y.nodes ≡ x.nodes ++ more
  pub ended : x.after ≢ [] → (y.nodes ≡ x.nodes) × (y.after ≡ x.after)

-- graph h is what graph g became by building
pub record Later (g h : FlowGraph) : Type 0 where
  pub nodes : (n : ℕ) (x : Node) → g.node n ≡ Some x → (y : Node) × (h.node n ≡ Some y) × SameNode x y
  pub conts : (k : ℕ) (x : Cont) → g.cont k ≡ Some x → (y : Cont) × (h.cont k ≡ Some y) × (y.asserts ≡ x.asserts)
  pub blocks : (b : ℕ) (x : Block) → g.block b ≡ Some x → (y : Block) × (h.block b ≡ Some y) × SameBlock x y
  pub functions : (f : ℕ) (x : Function) → g.function f ≡ Some x → h.function f ≡ Some x
  pub variables : (v : ℕ) (x : Variable) → g.variable v ≡ Some x → h.variable v ≡ Some x

-- the same of what a graph keeps of its form
pub record SameForm (g h : FlowGraph) : Type 0 where
  pub size : h.size ≡ g.size
  pub copies : h.copies ≡ g.copies
  pub lambdas : h.lambdas ≡ g.lambdas
  pub code : h.code ≡ g.code
  pub defines : h.defines ≡ g.defines

-- what is so of a graph and of all that it becomes
abbrev pub Lasting : (FlowGraph → Type 0) → FlowGraph → Type 0
Lasting P g = (h : FlowGraph) → Later g h → P h
