-- What a run reads off a graph. (This project's own.)
use Rattle.std.specs.Prelude.{ℕ, zero, suc, ◌+◌, ◌-◌, ◌||◌, ◌&&◌, if◌then◌else◌, Bool, true, false, not, nat_lt, List, [], ◌∷◌, map, length, slice_get, Option, Some, None}
use Rattle.lisp_base.specs.declared.values.SymId.{SymId}
use Rattle.icr_graph.specs.declared.nodes.Node.{Node}
use Rattle.icr_graph.specs.declared.nodes.NodeKind.{NodeKind}
use Rattle.icr_graph.specs.declared.nodes.NodeKind.TheVariants as kind
use Rattle.icr_graph.specs.declared.nodes.Extent.{Extent}
use Rattle.icr_graph.specs.declared.nodes.Extent.TheVariants as extent
use Rattle.icr_graph.specs.declared.parts.Assertion.{Assertion}
use Rattle.icr_graph.specs.declared.parts.Cont.{Cont}
use Rattle.icr_graph.specs.declared.parts.Function.{Function}
use Rattle.icr_graph.specs.declared.parts.Variable.{Variable}
use Rattle.icr_graph.specs.declared.parts.Defined.{Defined}
use Rattle.icr_graph.specs.Plain.{FlowGraph, nodes_in}

abbrev pub named : {A : Type 0} → (ℕ → Option A) → Option ℕ → Option A
named entries None = None
named entries (Some n) = entries n

-- the node at a place of a block
abbrev pub node_at : FlowGraph → ℕ → ℕ → Option Node
node_at g b i = named g.node (slice_get (nodes_in g b) i)

abbrev pub assertions_on : Option Cont → List Assertion
assertions_on None = []
assertions_on (Some k) = k.asserts

-- ---- variables

-- the number in the source of a variable; of one that isn't there, 0
abbrev pub source_number : Option Variable → ℕ
source_number None = 0
source_number (Some v) = v.number

abbrev pub numbers_at : FlowGraph → List ℕ → List ℕ
numbers_at g vs = map (λ v. source_number (g.variable v)) vs

-- a block or a tagbody, not a variable of the source
abbrev pub is_extent : Option SymId → Bool
is_extent None = true
is_extent (Some s) = false

-- what stands under these numbers
abbrev pub if_there : {A : Type 0} → Option A → List A → List A
if_there None others = others
if_there (Some a) others = a ∷ others

abbrev pub all_there : {A : Type 0} → (ℕ → Option A) → List ℕ → List A
all_there entries [] = []
all_there entries (n ∷ ns) = if_there (entries n) (all_there entries ns)

-- the variable of the block or tagbody that an exit leaves, by its entry
abbrev pub variable_of_extent : Extent → Option ℕ
variable_of_extent (extent.Named v land) = Some v
variable_of_extent (extent.Tags v tags) = Some v
variable_of_extent x = None

abbrev pub variable_of_entry : Option Node → Option ℕ
variable_of_entry None = None
variable_of_entry (Some nd) = of_kind nd.kind
  where
    of_kind : NodeKind → Option ℕ
    of_kind (kind.Entry x exits) = variable_of_extent x
    of_kind k = None

abbrev pub variable_left : FlowGraph → Option ℕ → Option Variable
variable_left g entry = named g.variable (variable_of_entry (named g.node entry))

-- ---- functions

-- the block at which a function begins: for a call that isn't local, and for a form's own code, its first entry
abbrev pub entry_number : Option ℕ → ℕ
entry_number None = 0
entry_number (Some n) = n

abbrev pub entry_of : Function → (entry : Option ℕ) → Option ℕ
entry_of f entry = slice_get f.entries (entry_number entry)

abbrev pub entry_of_code : Option Function → Option ℕ
entry_of_code None = None
entry_of_code (Some f) = entry_of f None

abbrev pub lambdas_in : FlowGraph → ℕ
lambdas_in g = length g.lambdas

abbrev pub function_of_lambda : FlowGraph → ℕ → Option Function
function_of_lambda g k = there (slice_get g.lambdas k)
  where
    there : Option (Option ℕ) → Option Function
    there None = None
    there (Some f) = named g.function f

-- a function, with its graph
pub record Found : Type 0 where
  pub graph : ℕ
  pub text : FlowGraph
  pub function : Function

abbrev pub found : ℕ → FlowGraph → Option Function → Option Found
found n g None = None
found n g (Some f) = Some (record { graph = n; text = g; function = f })

-- the function of a number among those of all graphs, of which the first is the nth
abbrev pub function_at : ℕ → List FlowGraph → ℕ → Option Found
function_at n [] k = None
function_at n (g ∷ gs) k =
    if nat_lt k (lambdas_in g) then found n g (function_of_lambda g k) else function_at (suc n) gs (k - lambdas_in g)

-- the number among all of the first function of a graph
abbrev pub first_function : List FlowGraph → ℕ → ℕ
first_function [] n = 0
first_function (g ∷ gs) zero = 0
first_function (g ∷ gs) (suc n) = lambdas_in g + first_function gs n

-- whether a function takes so many arguments
abbrev pub takes : Function → ℕ → Bool
takes f n = not (nat_lt n f.required) && (f.rest || not (nat_lt (f.required + f.optional) n))

-- the number of a function's lambda in its form
abbrev pub lambda_of : Option Function → Option ℕ
lambda_of None = None
lambda_of (Some f) = f.lambda

abbrev pub closed_by : FlowGraph → Option Function → List Variable
closed_by g None = []
closed_by g (Some f) = all_there g.variable f.closed

-- the functions that the forms of the prelude define: the symbol, and the number among all
abbrev pub defined_by : ℕ → Option Defined → List (SymId × ℕ) → List (SymId × ℕ)
defined_by start None others = others
defined_by start (Some d) others = (d.name, start + d.lambda) ∷ others

abbrev pub prelude_functions : (start : ℕ) → List FlowGraph → List (SymId × ℕ)
prelude_functions start [] = []
prelude_functions start (g ∷ gs) = defined_by start g.defines (prelude_functions (start + lambdas_in g) gs)
