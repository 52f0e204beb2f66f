-- A graph that is being built, and what each call adds to it. (This project's own.)
use Rattle.std.specs.Prelude.{◌≡◌, ℕ, suc, ◌≤◌, false, [], ◌∷◌, ◌++◌, length, Option, Some, None}
use Rattle.lisp_base.specs.declared.values.Place.{Place}
use Rattle.lisp_base.specs.Spec.{Spec}
use Rattle.icr_graph.specs.declared.nodes.Node.{Node}
use Rattle.icr_graph.specs.declared.nodes.NodeKind.{NodeKind}
use Rattle.icr_graph.specs.declared.nodes.NodeKind.TheVariants as kind
use Rattle.icr_graph.specs.declared.nodes.Leaving.{Leaving as Way}
use Rattle.icr_graph.specs.declared.nodes.Charges.{Charges}
use Rattle.icr_graph.specs.declared.parts.Function.{Function}
use Rattle.icr_graph.specs.declared.parts.Variable.{Variable}
use Rattle.icr_graph.specs.declared.parts.Defined.{Defined}
use Rattle.icr_graph.specs.Plain.{Slots, FlowGraph, graph_of, nodes_in}
use Rattle.form_graphs.specs.Spots.{Spot, next, first_of, Passes, Here, Ends, Forks, Unasserted, Asserted}
use Rattle.graph_meaning.specs.Reading.{variable_of_entry}
use Rattle.graph_building.specs.Later.{SameKind, Later, SameForm, Lasting}

-- a graph; the block to which nodes are added; and a number above those of its continuations
pub record Built : Type 0 where
  pub slots : Slots
  pub block : ℕ
  pub fresh : ℕ

abbrev pub graph : Built → FlowGraph
graph a = graph_of a.slots

-- where the next node will stand
abbrev pub spot : Built → Spot
spot a = record { block = a.block; index = length (nodes_in (graph a) a.block) }

-- more has been built, in the form that it was
pub record Grown (a b : Built) : Type 0 where
  pub later : Later (graph a) (graph b)
  pub form : SameForm (graph a) (graph b)
  pub fresh : a.fresh ≤ b.fresh

-- the function of a form's own code, which begins at a block
abbrev pub own_code : Place → (block : ℕ) → Function
own_code place b =
    record { lambda = None; name = None; place = place; required = 0; optional = 0; rest = false; parameters = []; closed = []; entries = b ∷ [] }

-- a graph with nothing but its own code, which begins where nodes are added
pub record IsBegun (nodes closed : ℕ) (defined : Option Defined) (place : Place) (b : Built) : Type 0 where
  pub size : (graph b).size ≡ nodes
  pub copies : (graph b).copies ≡ closed
  pub lambdas : (graph b).lambdas ≡ []
  pub defines : (graph b).defines ≡ defined
  pub code : ℕ
  pub is : (graph b).code ≡ Some code
  pub function : Lasting (λ h. h.function code ≡ Some (own_code place b.block)) (graph b)
  pub at : spot b ≡ first_of b.block

-- nothing is added where nodes are added
pub record Beside (a b : Built) : Type 0 where
  pub grown : Grown a b
  pub same : spot b ≡ spot a

-- nodes are added to another block, which has none
pub record Begins (block : ℕ) (a b : Built) : Type 0 where
  pub grown : Grown a b
  pub at : spot b ≡ first_of block

-- a continuation above those before it, of which this lasts
pub record NewCont (P : ℕ → FlowGraph → Type 0) (a b : Built) (k : ℕ) : Type 0 where
  pub beside : Beside a b
  pub above : a.fresh ≤ k
  pub below : suc k ≤ b.fresh
  pub lasts : Lasting (P k) (graph b)

abbrev pub FreeCont : Built → Built → ℕ → Type 0
FreeCont = NewCont (λ k g. Unasserted g k)

abbrev pub AssertedCont : Place → Spec → Built → Built → ℕ → Type 0
AssertedCont place t = NewCont (λ k g. Asserted g k place t)

abbrev pub passes_of : Charges → Passes
passes_of c = record { levels = c.levels; boxing = c.boxing }

-- a node stands where nodes are added, under a number
pub record NewNode (k : NodeKind) (to : Option ℕ) (place : Place) (c : Charges) (a b : Built) (n : ℕ) : Type 0 where
  pub grown : Grown a b
  pub next : spot b ≡ next (spot a)
  pub stands : (h : FlowGraph) → Later (graph b) h → (k' : NodeKind) × SameKind k k' × Here h (spot a) k' to place c.cost (passes_of c)
  pub under : (h : FlowGraph) → Later (graph b) h → (x : Node) × (h.node n ≡ Some x) × SameKind k x.kind

-- an exit stands there that names its entry
pub record NewExit (way : Way) (entry to : Option ℕ) (place : Place) (c : Charges) (a b : Built) : Type 0 where
  pub grown : Grown a b
  pub next : spot b ≡ next (spot a)
  pub stands : Lasting (λ h. Here h (spot a) (kind.Exit way entry) to place c.cost (passes_of c)) (graph b)

-- the block ends and goes on at one; nodes are added to a block that has none
pub record GoesOn (next then : ℕ) (a b : Built) : Type 0 where
  pub grown : Grown a b
  pub at : spot b ≡ first_of then
  pub ends : Lasting (λ h. Ends h (spot a) next) (graph b)

-- the block ends with its last node and goes on at one of two; nodes are added to the first
pub record ForksTo (yes no : ℕ) (a b : Built) : Type 0 where
  pub grown : Grown a b
  pub at : spot b ≡ first_of yes
  pub forks : (p : Spot) → next p ≡ spot a → Lasting (λ h. Forks h p yes no) (graph b)

pub record NewVariable (x : Variable) (a b : Built) (v : ℕ) : Type 0 where
  pub beside : Beside a b
  pub there : Lasting (λ h. h.variable v ≡ Some x) (graph b)

-- a function whose code begins at a block that has no nodes
pub record NewFunction (x : Function) (a b : Built) (f block : ℕ) : Type 0 where
  pub beside : Beside a b
  pub there : Lasting (λ h. h.function f ≡ Some (record x { entries = block ∷ [] })) (graph b)

-- a function is that of the form's next lambda
pub record NewLambda (f : ℕ) (a b : Built) : Type 0 where
  pub later : Later (graph a) (graph b)
  pub same : spot b ≡ spot a
  pub fresh : b.fresh ≡ a.fresh
  pub size : (graph b).size ≡ (graph a).size
  pub copies : (graph b).copies ≡ (graph a).copies
  pub lambdas : (graph b).lambdas ≡ (graph a).lambdas ++ Some f ∷ []
  pub code : (graph b).code ≡ (graph a).code
  pub defines : (graph b).defines ≡ (graph a).defines

-- an entry opens the block or tagbody of this variable
abbrev pub Opens : Built → (entry variable : ℕ) → Type 0
Opens a n v = Lasting (λ h. variable_of_entry (h.node n) ≡ Some v) (graph a)
