-- What each building call makes of a graph. This project's own.
use Rattle.std.specs.Prelude.{◌≡◌, ℕ, false, if◌then◌else◌, List, [], ◌∷◌, ◌++◌, Option, Some, None}
use Rattle.ir_ids.specs.Entries.{with_entry}
use Rattle.icr_graph.specs.declared.nodes.Node.{Node}
use Rattle.icr_graph.specs.declared.parts.Cont.{Cont}
use Rattle.icr_graph.specs.declared.parts.Block.{Block}
use Rattle.icr_graph.specs.declared.parts.Variable.{Variable}
use Rattle.icr_graph.specs.declared.parts.Assertion.{Assertion}
use Rattle.icr_graph.specs.declared.parts.Function.{Function}
use Rattle.icr_graph.specs.declared.nodes.NodeKind.{NodeKind}
use Rattle.icr_graph.specs.declared.nodes.NodeKind.TheVariants as kind
use Rattle.icr_graph.specs.Lists.{changed, touched, has_number, numbers_of}
use Rattle.icr_graph.specs.Kinds.{operands_of, arrivals_of}
use Rattle.icr_graph.specs.Edits.{taken_by}
use Rattle.icr_graph.specs.Plain.{FlowGraph}

abbrev pub empty_block : Block
empty_block = record { nodes = []; before = []; after = []; arriving = []; entry_of = None }

abbrev pub empty_cont : Cont
empty_cont = record { uses = []; dest = None; asserts = [] }

-- with a new block, continuation or variable
abbrev pub with_block : ℕ → FlowGraph → FlowGraph
with_block b g = record g { block = with_entry g.block b (Some empty_block) }

abbrev pub with_cont : ℕ → FlowGraph → FlowGraph
with_cont k g = record g { cont = with_entry g.cont k (Some empty_cont) }

abbrev pub with_variable : ℕ → Variable → FlowGraph → FlowGraph
with_variable v variable g = record g { variable = with_entry g.variable v (Some variable) }

abbrev pub holding : ℕ → Block → Block
holding n b = record b { nodes = b.nodes ++ n ∷ [] }

-- the list with a number at its end, unless it is there
abbrev pub with_number : ℕ → List ℕ → List ℕ
with_number n numbers = if has_number n numbers then numbers else numbers ++ n ∷ []

abbrev pub arriving_from : ℕ → Block → Block
arriving_from n b = record b { arriving = with_number n b.arriving }

-- no exit arrives from the node yet
abbrev pub IsNew : ℕ → (ℕ → Option Block) → Type 0
IsNew n block = (b : ℕ) → has_number n (numbers_of (λ x. x.arriving) (block b)) ≡ false

-- with a new node at the end of its block, which is the destination of its operands, and from which exits arrive
abbrev pub with_node : ℕ → Node → FlowGraph → FlowGraph
with_node n nd g =
    record g {
      node = with_entry g.node n (Some nd);
      cont = touched (operands_of nd.kind) (taken_by (Some n)) g.cont;
      block = changed (holding n) nd.block (touched (arrivals_of nd.kind) (arriving_from n) g.block);
    }

-- ---- what is joined to what is there

abbrev pub delivering_to : ℕ → Node → Node
delivering_to k nd = record nd { cont = Some k }

abbrev pub used_by : ℕ → Cont → Cont
used_by n k = record k { uses = k.uses ++ n ∷ [] }

-- node n delivers to continuation k
abbrev pub delivered : ℕ → ℕ → FlowGraph → FlowGraph
delivered n k g =
    record g {
      node = changed (delivering_to k) n g.node;
      cont = changed (used_by n) k g.cont;
    }

abbrev pub asserting : Assertion → Cont → Cont
asserting assertion k = record k { asserts = k.asserts ++ assertion ∷ [] }

-- with an assertion more of a continuation, the last
abbrev pub with_assertion : ℕ → Assertion → FlowGraph → FlowGraph
with_assertion k assertion g = record g { cont = changed (asserting assertion) k g.cont }

-- with a new function
abbrev pub with_function : ℕ → Function → FlowGraph → FlowGraph
with_function f function g = record g { function = with_entry g.function f (Some function) }

-- function f is that of the form's next lambda
abbrev pub with_lambda : ℕ → FlowGraph → FlowGraph
with_lambda f g = record g { lambdas = g.lambdas ++ Some f ∷ [] }

-- function f is the form's own code
abbrev pub with_code : ℕ → FlowGraph → FlowGraph
with_code f g = record g { code = Some f }

abbrev pub beginning_at : ℕ → Function → Function
beginning_at b f = record f { entries = f.entries ++ b ∷ [] }

abbrev pub entry_of_function : ℕ → Block → Block
entry_of_function f b = record b { entry_of = Some f }

-- block b is an entry of function f, the last
abbrev pub entered_at : ℕ → ℕ → FlowGraph → FlowGraph
entered_at f b g =
    record g {
      function = changed (beginning_at b) f g.function;
      block = changed (entry_of_function f) b g.block;
    }

abbrev pub naming_entry : ℕ → NodeKind → NodeKind
naming_entry n (kind.Exit l entry) = kind.Exit l (Some n)
naming_entry n k = k

abbrev pub naming_exit : ℕ → NodeKind → NodeKind
naming_exit n (kind.Entry x exits) = kind.Entry x (exits ++ n ∷ [])
naming_exit n k = k

abbrev pub leaving_entry : ℕ → Node → Node
leaving_entry entry nd = record nd { kind = naming_entry entry nd.kind }

abbrev pub left_by_exit : ℕ → Node → Node
left_by_exit exit nd = record nd { kind = naming_exit exit nd.kind }

-- an exit names an entry, of which it is the last exit
abbrev pub paired : ℕ → ℕ → FlowGraph → FlowGraph
paired exit entry g = record g { node = changed (leaving_entry entry) exit (changed (left_by_exit exit) entry g.node) }
