-- What the graphs of small forms do, computed: the same as the forms, in the same state with the same counts.
use Rattle.std.specs.Prelude.{◌≡◌, refl, ℕ, Bool, true, false, pos, List, [], ◌∷◌, ◌++◌, codes, slice_get, Option, Some, None}
use Rattle.std.specs.declared.vec.Vec.{Vec}
use Rattle.std.specs.declared.alloc.Global.{Global as Allocator}
use Rattle.lisp_base.specs.declared.values.SymKind.TheVariants.{Plain}
use Rattle.lisp_base.specs.declared.values.Val.{Val}
use Rattle.lisp_base.specs.declared.values.Val.TheVariants.{Int, Sym}
use Rattle.lisp_base.specs.declared.values.Place.{Place}
use Rattle.lisp_base.specs.declared.values.Place.TheVariants.{File}
use Rattle.lisp_base.specs.declared.primitives.Primitive.TheVariants as op
use Rattle.lisp_base.specs.declared.types.TypeName.TheVariants as name
use Rattle.lisp_base.specs.declared.types.TypeSpec.{TypeSpec}
use Rattle.lisp_base.specs.declared.types.TypeSpec.TheVariants as type
use Rattle.lisp_base.specs.Sort.{nil, truth, symbol}
use Rattle.lisp_base.specs.Spec.{Named}
use Rattle.core_form.specs.declared.tree.Variable.TheVariants.{Lexical, Special}
use Rattle.core_form.specs.Tree.{Parameter, Core, Quote, Local, SetLocal, Global, If, Let, Function as FunctionForm, Funcall, MvCall, Primitive, The, Block, ReturnFrom, Tagbody, Go, Catch, Throw, Unwind, Values, MvProg1, no_core, core, binding, no_binding, no_optional, lambda, no_item, tag, step as item, node_count, Top}
use Rattle.core_form.specs.State.{Symbol}
use Rattle.core_form.specs.Run.{Outcome}
use Rattle.core_form.specs.Eval.{evaluate, ending_of, Value}
use Rattle.layers.specs.Layer.{after}
use Rattle.icr_graph.specs.declared.nodes.Node.{Node}
use Rattle.icr_graph.specs.declared.nodes.NodeKind.{NodeKind}
use Rattle.icr_graph.specs.declared.nodes.NodeKind.TheVariants as kind
use Rattle.icr_graph.specs.declared.nodes.Leaf.TheVariants as leaf
use Rattle.icr_graph.specs.declared.nodes.Operation.TheVariants as operation
use Rattle.icr_graph.specs.declared.nodes.Extent.TheVariants as extent
use Rattle.icr_graph.specs.declared.nodes.Leaving.{Leaving}
use Rattle.icr_graph.specs.declared.nodes.Leaving.TheVariants as way
use Rattle.icr_graph.specs.declared.parts.Assertion.{Assertion}
use Rattle.icr_graph.specs.declared.parts.Cont.{Cont}
use Rattle.icr_graph.specs.declared.parts.Block.{Block as GraphBlock}
use Rattle.icr_graph.specs.declared.parts.Function.{Function}
use Rattle.icr_graph.specs.declared.parts.Variable.{Variable}
use Rattle.icr_graph.specs.Plain.{FlowGraph}
use Rattle.graph_meaning.specs.Running.{step}
use Rattle.graph_meaning.specs.AsLayer.{first_machine, outcome_at}
use Rattle.graph_meaning.specs.Everything.{everything}

-- ---- forms

abbrev plain : List ℕ → Symbol
plain letters = record { name = letters; kind = Plain }

abbrev pub names : List Symbol
names = plain (codes "NIL") ∷ plain (codes "T") ∷ plain (codes "X") ∷ plain (codes "B") ∷ []

abbrev pub top : Core → Top
top c = record { place = File 0 0; core = c; nodes = node_count c }

-- what a form does with a fuel of 9
abbrev form_does : Core → Outcome Val
form_does c = evaluate (record { prelude = []; forms = top c ∷ []; heap = []; symbols = names }) [] 9

abbrev pub at : ℕ → Place
at n = File n 0

-- ---- graphs

-- a node at this place, with its cost and the forms that deliver its values, of which so many box
abbrev pub node : NodeKind → Option ℕ → Place → (cost levels boxing : ℕ) → Node
node k to p n l b = record { kind = k; cont = to; block = 0; place = p; charges = record { cost = n; levels = l; boxing = b } }

abbrev pub cont : List Assertion → Cont
cont ts = record { uses = []; dest = None; asserts = ts }

abbrev pub block : (nodes after : List ℕ) → GraphBlock
block ns bs = record { nodes = ns; before = []; after = bs; arriving = []; entry_of = None }

abbrev own_code : Function
own_code = record { lambda = None; name = None; place = at 0; required = 0; optional = 0; rest = false; parameters = []; closed = []; entries = 0 ∷ [] }

-- a lexical variable of this number in the form, and what stands for a block or a tagbody
abbrev pub variable : Vec TypeSpec Allocator → ℕ → Variable
variable types n = record { number = n; name = Some (symbol 2); cell = false; word = false; types = types }

abbrev pub extent_variable : Vec TypeSpec Allocator → ℕ → Variable
extent_variable types n = record { number = n; name = None; cell = false; word = false; types = types }

-- a function of one required argument that begins at a block
abbrev of_one : (block : ℕ) → Function
of_one b = record { lambda = Some 0; name = None; place = at 0; required = 1; optional = 0; rest = false; parameters = 0 ∷ []; closed = []; entries = b ∷ [] }

abbrev lambdas_of : List Function → List (Option ℕ)
lambdas_of [] = []
lambdas_of (f ∷ fs) = Some 1 ∷ []

-- a graph of a form of so many nodes, with a function or none besides its own code
abbrev pub graph : (size : ℕ) → List Node → List Cont → List GraphBlock → List Variable → List Function → FlowGraph
graph n nodes conts blocks variables functions = record {
  node = slice_get nodes;
  cont = slice_get conts;
  block = slice_get blocks;
  function = slice_get (own_code ∷ functions);
  variable = slice_get variables;
  lambdas = lambdas_of functions;
  code = Some 0;
  defines = None;
  size = n;
  copies = 0;
}

-- what gives one value, passed on by one form; the end of a function
abbrev pub gives : Val → (to cost : ℕ) → Node
gives v k n = node (kind.Ref (leaf.Constant v)) (Some k) (at 0) n 1 1

abbrev drops : Val → (cost : ℕ) → Node
drops v n = node (kind.Ref (leaf.Constant v)) None (at 0) n 1 0

abbrev pub ends : ℕ → Node
ends k = node (kind.Return k) None (at 0) 0 0 0

abbrev pub exits : Leaving → Option ℕ → (cost : ℕ) → Node
exits w entry n = node (kind.Exit w entry) None (at 0) n 0 0

abbrev plain_conts : List Cont
plain_conts = cont [] ∷ cont [] ∷ cont [] ∷ cont [] ∷ cont [] ∷ cont [] ∷ []

-- what a graph does in so many steps
abbrev graph_does : ℕ → FlowGraph → Outcome Val
graph_does n g = outcome_at (after (step names (g ∷ [])) n (first_machine [] names 0 (g ∷ []) []))

-- ---- constants, choices, variables

abbrev pub int : ℕ → Val
int n = Int (pos n)

abbrev pub quoted : Val → Core
quoted v = Quote (at 0) v

abbrev graph_of_one : FlowGraph
graph_of_one = graph 1 (gives (int 1) 0 1 ∷ ends 0 ∷ []) plain_conts (block (0 ∷ 1 ∷ []) [] ∷ []) [] []

constant : graph_does 5 graph_of_one ≡ form_does (quoted (int 1))
unfolding everything
constant = refl

-- (if nil 1 2)
abbrev graph_of_if : FlowGraph
graph_of_if =
    graph 4
    (gives nil 1 2 ∷ node (kind.If 1) None (at 0) 0 0 0 ∷ node (kind.Ref (leaf.Constant (int 1))) (Some 0) (at 0) 1 2 2 ∷ node (kind.Ref (leaf.Constant (int 2))) (Some 0) (at 0) 1 2 2 ∷ ends 0 ∷ [])
    plain_conts
    (block (0 ∷ 1 ∷ []) (1 ∷ 2 ∷ []) ∷ block (2 ∷ []) (3 ∷ []) ∷ block (3 ∷ []) (3 ∷ []) ∷ block (4 ∷ []) [] ∷ []) [] []

choice : graph_does 9 graph_of_if ≡ form_does (If (at 0) (quoted nil) (quoted (int 1)) (quoted (int 2)))
unfolding everything
choice = refl

abbrev pub parameter : Parameter
parameter = record { variable = Lexical 1 (symbol 2); types = [] }

-- (let ((x 1)) (setq x x))
abbrev graph_of_let : Vec TypeSpec Allocator → FlowGraph
graph_of_let types =
    graph 5
    (gives (int 1) 1 2 ∷ node (kind.Bind 0 1) None (at 0) 0 0 0 ∷ node (kind.Ref (leaf.Variable 0)) (Some 2) (at 0) 2 1 1 ∷ node (kind.Set 0 2) (Some 0) (at 0) 0 2 2 ∷ ends 0 ∷ [])
    plain_conts (block (0 ∷ 1 ∷ 2 ∷ 3 ∷ 4 ∷ []) [] ∷ []) (variable types 1 ∷ []) []

variables : (types : Vec TypeSpec Allocator) → graph_does 9 (graph_of_let types) ≡ form_does (Let (at 0) (binding parameter (quoted (int 1)) no_binding) (SetLocal (at 0) 1 (Local (at 0) 1)))
unfolding everything
variables types = refl

-- ---- operations and assertions

abbrev pub asserting : TypeSpec → Cont
asserting t = cont (record { spec = t; place = at 0; checked = true } ∷ [])

-- (the symbol 1), and the same with a flag that is off
abbrev graph_of_the : (checked : Bool) → FlowGraph
graph_of_the b =
    graph 3
    (gives (int 1) 1 2 ∷ node (kind.Combination operation.Pass (1 ∷ [])) (Some 0) (at 0) 1 1 1 ∷ ends 0 ∷ [])
    (cont [] ∷ cont (record { spec = type.Named name.Symbol; place = at 0; checked = b } ∷ []) ∷ []) (block (0 ∷ 1 ∷ 2 ∷ []) [] ∷ []) [] []

tested : graph_does 9 (graph_of_the true) ≡ form_does (The (at 0) (Named name.Symbol) (quoted (int 1)))
unfolding everything
tested = refl

untested : ending_of (graph_does 9 (graph_of_the false)) ≡ Value (int 1)
unfolding everything
untested = refl

-- (car 1)
abbrev graph_of_car : FlowGraph
graph_of_car =
    graph 2
    (gives (int 1) 1 2 ∷ node (kind.Combination (operation.Primitive op.Car) (1 ∷ [])) (Some 0) (at 0) 0 1 1 ∷ ends 0 ∷ [])
    (cont [] ∷ asserting (type.Named name.List) ∷ []) (block (0 ∷ 1 ∷ 2 ∷ []) [] ∷ []) [] []

primitive : graph_does 9 graph_of_car ≡ form_does (Primitive (at 0) op.Car (core (quoted (int 1)) no_core))
unfolding everything
primitive = refl

-- ---- calls

abbrev identity : Core
identity = FunctionForm (at 0) (lambda 0 (parameter ∷ []) no_optional None (Local (at 0) 1))

abbrev body_of_identity : List Node
body_of_identity =
    node (kind.Ref (leaf.Argument 0)) (Some 3) (at 0) 0 0 0 ∷ node (kind.Bind 0 3) None (at 0) 0 0 0 ∷ node (kind.Ref (leaf.Variable 0)) (Some 4) (at 0) 1 1 1 ∷ ends 4 ∷ []

-- (funcall (lambda (x) x) 7)
abbrev call_of_identity : Core
call_of_identity = Funcall (at 0) identity (core (quoted (int 7)) no_core)

abbrev graph_of_call : Vec TypeSpec Allocator → FlowGraph
graph_of_call types =
    graph (node_count call_of_identity)
    (node (kind.Ref (leaf.Closed 1 true)) (Some 1) (at 0) 2 0 0 ∷ gives (int 7) 2 1 ∷ node (kind.Combination (operation.CallKnown 1 None true) (1 ∷ 2 ∷ [])) (Some 0) (at 0) 0 1 1 ∷ ends 0 ∷ body_of_identity)
    plain_conts (block (0 ∷ 1 ∷ 2 ∷ 3 ∷ []) [] ∷ block (4 ∷ 5 ∷ 6 ∷ 7 ∷ []) [] ∷ []) (variable types 1 ∷ []) (of_one 1 ∷ [])

known_call : (types : Vec TypeSpec Allocator) → graph_does 20 (graph_of_call types) ≡ form_does call_of_identity
unfolding everything
known_call types = refl

-- (multiple-value-call (lambda (x) x) 7)
abbrev call_with_values : Core
call_with_values = MvCall (at 0) identity (core (quoted (int 7)) no_core)

abbrev graph_of_values_call : Vec TypeSpec Allocator → FlowGraph
graph_of_values_call types =
    graph (node_count call_with_values)
    (node (kind.Ref (leaf.Functional 1)) (Some 1) (at 0) 2 1 1 ∷ gives (int 7) 2 1 ∷ node (kind.Entry (extent.Keep 2) (3 ∷ [])) None (at 0) 0 0 0 ∷ node (kind.Exit way.Release (Some 2)) (Some 5) (at 0) 0 0 0 ∷ body_of_identity ++ (node (kind.MvCombination 1 (5 ∷ []) true) (Some 0) (at 0) 0 1 1 ∷ ends 0 ∷ []))
    plain_conts (block (0 ∷ 1 ∷ 2 ∷ 3 ∷ 8 ∷ 9 ∷ []) [] ∷ block (4 ∷ 5 ∷ 6 ∷ 7 ∷ []) [] ∷ []) (variable types 1 ∷ []) (of_one 1 ∷ [])

values_call : (types : Vec TypeSpec Allocator) → graph_does 20 (graph_of_values_call types) ≡ form_does call_with_values
unfolding everything
values_call types = refl

-- ---- exits

-- (block b (return-from b 1))
abbrev graph_of_block : Vec TypeSpec Allocator → FlowGraph
graph_of_block types =
    graph 3
    (node (kind.Entry (extent.Named 0 1) (2 ∷ [])) (Some 0) (at 0) 1 1 1 ∷ gives (int 1) 1 2 ∷ exits (way.ReturnFrom (symbol 3) 1) (Some 0) 0 ∷ ends 0 ∷ [])
    plain_conts (block (0 ∷ 1 ∷ 2 ∷ []) [] ∷ block (3 ∷ []) [] ∷ []) (extent_variable types 1 ∷ []) []

block_left : (types : Vec TypeSpec Allocator) → graph_does 9 (graph_of_block types) ≡ form_does (Block (at 0) 1 (symbol 3) (ReturnFrom (at 0) 1 (quoted (int 1))))
unfolding everything
block_left types = refl

-- (tagbody (go b) b)
abbrev graph_of_tagbody : Vec TypeSpec Allocator → FlowGraph
graph_of_tagbody types =
    graph 2
    (node (kind.Entry (extent.Tags 0 (record { number = 1; name = Sym (symbol 3); block = 1 } ∷ [])) (1 ∷ 2 ∷ [])) None (at 0) 1 0 0 ∷ exits (way.Go 1 (Sym (symbol 3))) (Some 0) 1 ∷ exits way.Close (Some 0) 0 ∷ gives nil 0 0 ∷ ends 0 ∷ [])
    plain_conts (block (0 ∷ 1 ∷ []) [] ∷ block (2 ∷ 3 ∷ 4 ∷ []) [] ∷ []) (extent_variable types 1 ∷ []) []

tag_gone_to : (types : Vec TypeSpec Allocator) → graph_does 12 (graph_of_tagbody types) ≡ form_does (Tagbody (at 0) (item (Go (at 0) 1) (tag 1 (Sym (symbol 3)) no_item)))
unfolding everything
tag_gone_to types = refl

-- (catch t (throw t 1))
abbrev thrown : Core
thrown = Throw (at 0) (quoted truth) (quoted (int 1))

abbrev graph_of_catch : FlowGraph
graph_of_catch =
    graph 5
    (gives truth 1 2 ∷ node (kind.Entry (extent.Catching 1 1) []) (Some 0) (at 0) 0 1 1 ∷ gives truth 2 2 ∷ gives (int 1) 3 1 ∷ exits (way.Throw 2 3) None 0 ∷ ends 0 ∷ [])
    plain_conts (block (0 ∷ 1 ∷ 2 ∷ 3 ∷ 4 ∷ []) [] ∷ block (5 ∷ []) [] ∷ []) [] []

caught : graph_does 12 graph_of_catch ≡ form_does (Catch (at 0) (quoted truth) thrown)
unfolding everything
caught = refl

-- (catch t (unwind-protect (throw t 1) 2))
abbrev graph_of_unwind : FlowGraph
graph_of_unwind =
    graph 7
    (gives truth 1 2 ∷ node (kind.Entry (extent.Catching 1 1) []) (Some 0) (at 0) 0 1 1 ∷ node (kind.Entry (extent.Guarded 2) (8 ∷ [])) None (at 0) 1 0 0 ∷ gives truth 2 2 ∷ gives (int 1) 3 1 ∷ exits (way.Throw 2 3) None 0 ∷ ends 0 ∷ drops (int 2) 1 ∷ exits way.Resume (Some 2) 0 ∷ [])
    plain_conts (block (0 ∷ 1 ∷ 2 ∷ 3 ∷ 4 ∷ 5 ∷ []) [] ∷ block (6 ∷ []) [] ∷ block (7 ∷ 8 ∷ []) [] ∷ []) [] []

cleaned_up : graph_does 16 graph_of_unwind ≡ form_does (Catch (at 0) (quoted truth) (Unwind (at 0) thrown (quoted (int 2))))
unfolding everything
cleaned_up = refl

-- (unwind-protect 1 2): the guarded form ends with its value, which is kept
abbrev graph_of_guarded : FlowGraph
graph_of_guarded =
    graph 3
    (node (kind.Entry (extent.Guarded 1) (2 ∷ 4 ∷ [])) None (at 0) 1 0 0 ∷ gives (int 1) 1 1 ∷ exits (way.Guard 1) (Some 0) 0 ∷ drops (int 2) 1 ∷ node (kind.Exit way.Resume (Some 0)) (Some 0) (at 0) 0 1 1 ∷ ends 0 ∷ [])
    plain_conts (block (0 ∷ 1 ∷ 2 ∷ []) [] ∷ block (3 ∷ 4 ∷ 5 ∷ []) [] ∷ []) [] []

guarded : graph_does 12 graph_of_guarded ≡ form_does (Unwind (at 0) (quoted (int 1)) (quoted (int 2)))
unfolding everything
guarded = refl

-- (multiple-value-prog1 (values 1 2) 3)
abbrev graph_of_prog1 : FlowGraph
graph_of_prog1 =
    graph 5
    (gives (int 1) 1 3 ∷ gives (int 2) 2 1 ∷ node (kind.Combination operation.Values (1 ∷ 2 ∷ [])) (Some 3) (at 0) 0 1 1 ∷ node (kind.Entry (extent.Keep 3) (5 ∷ [])) None (at 0) 0 0 0 ∷ drops (int 3) 1 ∷ node (kind.Exit way.Release (Some 3)) (Some 0) (at 0) 0 1 1 ∷ ends 0 ∷ [])
    plain_conts (block (0 ∷ 1 ∷ 2 ∷ 3 ∷ 4 ∷ 5 ∷ 6 ∷ []) [] ∷ []) [] []

values_kept : graph_does 12 graph_of_prog1 ≡ form_does (MvProg1 (at 0) (Values (at 0) (core (quoted (int 1)) (core (quoted (int 2)) no_core))) (quoted (int 3)))
unfolding everything
values_kept = refl

-- (let ((x 1)) x) with a special variable
abbrev pub special : Parameter
special = record { variable = Special (symbol 2); types = [] }

abbrev graph_of_special : FlowGraph
graph_of_special =
    graph 4
    (gives (int 1) 1 2 ∷ node (kind.Entry (extent.Special (symbol 2) 1) (3 ∷ [])) None (at 0) 0 0 0 ∷ node (kind.Ref (leaf.Global (symbol 2))) (Some 0) (at 0) 1 2 2 ∷ exits way.Close (Some 1) 0 ∷ ends 0 ∷ [])
    plain_conts (block (0 ∷ 1 ∷ 2 ∷ 3 ∷ 4 ∷ []) [] ∷ []) [] []

special_bound : graph_does 12 graph_of_special ≡ form_does (Let (at 0) (binding special (quoted (int 1)) no_binding) (Global (at 0) (symbol 2)))
unfolding everything
special_bound = refl
