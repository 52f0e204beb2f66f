-- A flow graph as it is seen: from numbers to what stands there. This project's own.
use Rattle.std.specs.Prelude.{ℕ, List, [], ◌∷◌, Option}
use Rattle.ir_ids.specs.Entries.{map_of}
use Rattle.icr_graph.specs.declared.nodes.Node.{Node}
use Rattle.icr_graph.specs.declared.parts.Cont.{Cont}
use Rattle.icr_graph.specs.declared.parts.Block.{Block}
use Rattle.icr_graph.specs.declared.parts.Function.{Function}
use Rattle.icr_graph.specs.declared.parts.Variable.{Variable}
use Rattle.icr_graph.specs.declared.parts.Defined.{Defined}
use Rattle.icr_graph.specs.Lists.{listed, numbers_of}
use Rattle.icr_graph.specs.Kinds.{operands_of, arrivals_of, entry_left, exits_of, variables_of, functions_of}

-- the slots of its arenas, and what it keeps of its form: how many nodes and closed copies it has, the function of each of
-- its lambdas, the function of its own code, and what it defines
pub record Slots : Type 0 where
  pub nodes : List (Option Node)
  pub conts : List (Option Cont)
  pub blocks : List (Option Block)
  pub functions : List (Option Function)
  pub variables : List (Option Variable)
  pub size : ℕ
  pub copies : ℕ
  pub lambdas : List (Option ℕ)
  pub code : Option ℕ
  pub defines : Option Defined

-- what stands under each number, and the same of its form
pub record FlowGraph : Type 0 where
  pub node : ℕ → Option Node
  pub cont : ℕ → Option Cont
  pub block : ℕ → Option Block
  pub function : ℕ → Option Function
  pub variable : ℕ → Option Variable
  pub size : ℕ
  pub copies : ℕ
  pub lambdas : List (Option ℕ)
  pub code : Option ℕ
  pub defines : Option Defined

abbrev pub graph_of : Slots → FlowGraph
graph_of s =
    record {
      node = map_of s.nodes;
      cont = map_of s.conts;
      block = map_of s.blocks;
      function = map_of s.functions;
      variable = map_of s.variables;
      size = s.size;
      copies = s.copies;
      lambdas = s.lambdas;
      code = s.code;
      defines = s.defines;
    }

-- ---- reading it; of a number that isn't live, nothing

abbrev pub nodes_in : FlowGraph → ℕ → List ℕ
nodes_in g b = numbers_of (λ x. x.nodes) (g.block b)

abbrev pub blocks_before : FlowGraph → ℕ → List ℕ
blocks_before g b = numbers_of (λ x. x.before) (g.block b)

abbrev pub blocks_after : FlowGraph → ℕ → List ℕ
blocks_after g b = numbers_of (λ x. x.after) (g.block b)

abbrev pub arriving_at : FlowGraph → ℕ → List ℕ
arriving_at g b = numbers_of (λ x. x.arriving) (g.block b)

abbrev pub entered_by : FlowGraph → ℕ → List ℕ
entered_by g b = numbers_of (λ x. listed x.entry_of) (g.block b)

abbrev pub block_of : FlowGraph → ℕ → List ℕ
block_of g n = numbers_of (λ x. x.block ∷ []) (g.node n)

abbrev pub cont_of : FlowGraph → ℕ → List ℕ
cont_of g n = numbers_of (λ x. listed x.cont) (g.node n)

abbrev pub operands_at : FlowGraph → ℕ → List ℕ
operands_at g n = numbers_of (λ x. operands_of x.kind) (g.node n)

abbrev pub arrivals_at : FlowGraph → ℕ → List ℕ
arrivals_at g n = numbers_of (λ x. arrivals_of x.kind) (g.node n)

abbrev pub entry_left_at : FlowGraph → ℕ → List ℕ
entry_left_at g n = numbers_of (λ x. entry_left x.kind) (g.node n)

abbrev pub exits_at : FlowGraph → ℕ → List ℕ
exits_at g n = numbers_of (λ x. exits_of x.kind) (g.node n)

abbrev pub variables_at : FlowGraph → ℕ → List ℕ
variables_at g n = numbers_of (λ x. variables_of x.kind) (g.node n)

abbrev pub functions_at : FlowGraph → ℕ → List ℕ
functions_at g n = numbers_of (λ x. functions_of x.kind) (g.node n)

abbrev pub uses_of : FlowGraph → ℕ → List ℕ
uses_of g k = numbers_of (λ x. x.uses) (g.cont k)

abbrev pub dest_of : FlowGraph → ℕ → List ℕ
dest_of g k = numbers_of (λ x. listed x.dest) (g.cont k)

abbrev pub entries_of : FlowGraph → ℕ → List ℕ
entries_of g f = numbers_of (λ x. x.entries) (g.function f)

abbrev pub parameters_of : FlowGraph → ℕ → List ℕ
parameters_of g f = numbers_of (λ x. x.parameters) (g.function f)

abbrev pub closed_of : FlowGraph → ℕ → List ℕ
closed_of g f = numbers_of (λ x. x.closed) (g.function f)
