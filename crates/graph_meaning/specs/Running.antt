-- What a list of graphs does: it runs nodes one after another, calls functions, and runs the forms in their order. (This project's own.)
use Rattle.std.specs.Prelude.{ℕ, suc, ◌+◌, Bool, true, if◌then◌else◌, List, [], ◌∷◌, ◌++◌, length, map, zip, slice_get, Option, Some, None, option_map, ◌==◌}
use Rattle.std.specs.List.{list_all}
use Rattle.lisp_base.specs.declared.values.Val.{Val}
use Rattle.lisp_base.specs.Sort.{nil}
use Rattle.core_form.specs.State.{Symbol, Object, Fun, Arguments, State, first_of_values}
use Rattle.core_form.specs.Effect.{Effect, ◌>>=◌, ◌>>◌, pure, spend, stack_at, begin, box_all}
use Rattle.core_form.specs.Force.{Vals, Force, is_true, raise, object_at, one}
use Rattle.core_form.specs.Primitives.{global_function}
use Rattle.core_form.specs.Step.{designated, spread, not_too_many, frame_words}
use Rattle.icr_graph.specs.declared.nodes.Operation.{Operation}
use Rattle.icr_graph.specs.declared.nodes.Operation.TheVariants as operation
use Rattle.icr_graph.specs.declared.nodes.NodeKind.{NodeKind}
use Rattle.icr_graph.specs.declared.nodes.NodeKind.TheVariants as kind
use Rattle.icr_graph.specs.declared.nodes.Node.{Node}
use Rattle.icr_graph.specs.declared.parts.Function.{Function}
use Rattle.icr_graph.specs.Kinds.{operands_of}
use Rattle.icr_graph.specs.Plain.{FlowGraph, nodes_in, blocks_after}
use Rattle.graph_meaning.specs.Machine.{Delivered, nothing, values_at, value_at, Activation, advanced, at_block, holding, taking, Waiting, Caller, Control, Going, Calling, Returning, Leaving, Stopped, Next, Over, Machine, going, after}
use Rattle.graph_meaning.specs.Reading.{node_at, entry_of, entry_of_code, Found, function_at, first_function, takes, lambda_of, closed_by, named}
use Rattle.graph_meaning.specs.Effects.{delivered_by, test_operands, bind, assign, on_variable, leaf_values, box_before, operate}
use Rattle.graph_meaning.specs.Extents.{open_extent, leave_by, leave_on, take_one, spent}

-- ---- nodes that give values

-- the values of an effect, which the node's continuation then holds; and the next node comes
abbrev pub gives : Node → Activation → List Waiting → Effect Vals → State → Machine
gives nd a ws m s =
    after a ws (λ vs. going (advanced (holding nd.cont vs a)) ws) ((m >>= delivered_by nd.charges) s)

-- The last node of its block goes on at the first of two blocks where its test is true, else at the second. Any other If goes on.
abbrev pub branches : Bool → (behind : Option ℕ) → List ℕ → Activation → List Waiting → State → Machine
branches b None (yes_block ∷ no_block ∷ []) a ws s = going (at_block (if b then yes_block else no_block) a) ws s
branches b None blocks a ws s = going (advanced a) ws s
branches b (Some n) blocks a ws s = going (advanced a) ws s

abbrev pub first_values : Delivered → List ℕ → Vals
first_values d ks = map (value_at d) ks

abbrev pub all_values : Delivered → List ℕ → Vals
all_values d [] = []
all_values d (k ∷ ks) = values_at d k ++ all_values d ks

-- ---- calls

abbrev pub calling : (tail : Bool) → (function : ℕ) → (closed arguments : Vals) → Option ℕ → Activation → List Waiting → State → Machine
calling tail k closed vs entry a ws s =
    record { control = Calling tail k closed vs entry; here = a; waiting = Caller tail s.frame a ∷ ws; state = s }

-- a value that was tested is a function
abbrev pub calls_object : Node → (tail : Bool) → Vals → Option Object → Activation → List Waiting → State → Machine
calls_object nd tail vs (Some (Fun k closed)) a ws s = calling tail k closed vs None a ws s
calls_object nd tail vs o a ws s = gives nd a ws (one nil) s

abbrev pub calls : Node → (tail : Bool) → Vals → Val → Activation → List Waiting → State → Machine
calls nd tail vs v a ws s = calls_object nd tail vs (object_at v s) a ws s

abbrev pub calls_known : Node → (tail : Bool) → (start : ℕ) → Option ℕ → Option ℕ → (closed arguments : Vals) → Activation → List Waiting → State → Machine
calls_known nd tail start None entry closed vs a ws s = gives nd a ws (one nil) s
calls_known nd tail start (Some k) entry closed vs a ws s = calling tail (start + k) closed vs entry a ws s

abbrev pub others : Vals → Vals
others [] = []
others (v ∷ vs) = vs

abbrev pub closed_at : Delivered → List ℕ → Vals
closed_at d [] = []
closed_at d (k ∷ ks) = values_at d k

abbrev pub operates : Node → Delivered → List ℕ → Activation → List Waiting → Operation → State → Machine
operates nd d ks a ws op s = gives nd a ws (operate a.force nd.place op (first_values d ks) (all_values d ks)) s

-- a combination, of which d holds the operands
abbrev pub combines : FlowGraph → (start : ℕ) → Node → Delivered → List ℕ → Activation → List Waiting → Operation → State → Machine
combines g start nd d ks a ws (operation.CallGlobal name tail) s =
    after a ws (λ f. calls nd tail (first_values d ks) (first_of_values f) a ws) (global_function a.force nd.place name s)
combines g start nd d ks a ws (operation.Funcall tail) s =
    let vs = first_values d ks in
    after a ws (λ f. calls nd tail (others vs) f a ws) (designated a.force nd.place (first_of_values vs) s)
combines g start nd d ks a ws (operation.Apply tail) s =
    let vs = first_values d ks in
    after a ws (λ f t. after a ws (λ us. calls nd tail us f a ws) (spread a.force nd.place (others vs) t)) (designated a.force nd.place (first_of_values vs) s)
combines g start nd d ks a ws (operation.CallKnown f entry tail) s =
    calls_known nd tail start (lambda_of (g.function f)) entry (closed_at d ks) (others (first_values d ks)) a ws s
combines g start nd d ks a ws (operation.Primitive o) s = operates nd d ks a ws (operation.Primitive o) s
combines g start nd d ks a ws (operation.Is t) s = operates nd d ks a ws (operation.Is t) s
combines g start nd d ks a ws (operation.SetGlobal name) s = operates nd d ks a ws (operation.SetGlobal name) s
combines g start nd d ks a ws (operation.SetFunction name) s = operates nd d ks a ws (operation.SetFunction name) s
combines g start nd d ks a ws operation.Values s = operates nd d ks a ws operation.Values s
combines g start nd d ks a ws operation.Pass s = operates nd d ks a ws operation.Pass s

-- ---- a node, whose operands d holds

abbrev pub acts : FlowGraph → (start : ℕ) → Node → Delivered → Activation → List Waiting → NodeKind → State → Machine
acts g start nd d a ws (kind.Ref l) s = gives nd a ws (leaf_values g start a nd.place l) s
acts g start nd d a ws (kind.Set x value) s =
    gives nd a ws (on_variable (g.variable x) (value_at d value) (λ y. assign y (value_at d value))) s
acts g start nd d a ws (kind.If test) s = branches (is_true (value_at d test)) (slice_get (nodes_in g a.block) (suc a.index)) (blocks_after g a.block) a ws s
acts g start nd d a ws (kind.Combination op ks) s = combines g start nd d ks a ws op s
acts g start nd d a ws (kind.MvCombination f ks tail) s =
    let vs = all_values d ks in
    after a ws (λ v. calls nd tail vs v a ws) ((not_too_many a.force nd.place vs >> designated a.force nd.place (value_at d f)) s)
acts g start nd d a ws (kind.Bind x value) s =
    gives nd a ws (on_variable (g.variable x) (value_at d value) (λ y. bind y (value_at d value))) s
acts g start nd d a ws (kind.Return value) s =
    record { control = Returning (values_at d value); here = a; waiting = ws; state = s }
acts g start nd d a ws (kind.Entry x exits) s = open_extent g nd d a ws x s
acts g start nd d a ws (kind.Exit way entry) s = leave_by g nd d entry a ws way s

-- A node costs what is charged on it, boxes and tests its operands, takes them, and acts.
abbrev pub runs_node : FlowGraph → (start : ℕ) → Node → Activation → List Waiting → State → Machine
runs_node g start nd a ws s =
    let ks = operands_of nd.kind in
    let d = a.delivered in
    let b = taking ks a in
    after b ws (λ u. acts g start nd d b ws nd.kind) ((box_before nd.kind (first_values d ks) >> test_operands g a.force d ks) (spent nd.charges.cost s))

-- from the end of a block to the only one after it
abbrev pub to_next : List ℕ → Activation → List Waiting → State → Machine
to_next [] a ws s = going a ws s
to_next (b ∷ bs) a ws s = if list_all (λ c. c == b) bs then going (at_block b a) ws s else going a ws s

abbrev pub runs_at : FlowGraph → (start : ℕ) → Option Node → Activation → List Waiting → State → Machine
runs_at g start None a ws s = to_next (blocks_after g a.block) a ws s
runs_at g start (Some nd) a ws s = runs_node g start nd a ws s

-- ---- functions

abbrev pub node_of : Option FlowGraph → Activation → Option Node
node_of None a = None
node_of (Some g) a = node_at g a.block a.index

-- a call has given values to its node; one that isn't in tail position boxes them
abbrev pub returns_to : Option Node → (tail : Bool) → Vals → Activation → List Waiting → State → Machine
returns_to None tail vs a ws s = going a ws s
returns_to (Some nd) tail vs a ws s = gives nd a ws ((if tail then pure tt else box_all vs) >> pure vs) s

-- what is in force in a function: a call in tail position takes the place of its caller
abbrev pub force_within : (tail : Bool) → (nodes given : ℕ) → Force → Force
force_within tail nodes given f =
    let base = if tail then f.below else f.words in record f { below = base; words = base + frame_words nodes given }

-- a function at this block, with the arguments of its call
abbrev pub activation : Found → (block : ℕ) → (tail : Bool) → Vals → (born : ℕ) → Force → Activation
activation f b tail vs born force = record {
  graph = f.graph;
  block = b;
  index = 0;
  delivered = nothing;
  arguments = vs;
  born = born;
  force = force_within tail f.text.size (length vs) force;
}

-- the numbers of the variables that a function closes over, with what they hold
abbrev pub frame_of : Found → Vals → List (ℕ × Val)
frame_of f closed = zip (map (λ x. x.number) (closed_by f.text (Some f.function))) closed

-- it begins if it takes so many arguments
abbrev pub begins : Function → Activation → List Waiting → State → Machine
begins f a ws s =
    if takes f (length a.arguments) then going a ws s
    else after a ws (λ (u : Unit {0}). going a ws) (raise a.force (Arguments f.name (length a.arguments)) f.place s)

-- a function by its number, and the entry at which a call arrives
abbrev pub at_entry : Option Found → Option ℕ → Option (Found × ℕ)
at_entry None entry = None
at_entry (Some f) entry = option_map (λ b. (f, b)) (entry_of f.function entry)

-- A call takes fuel, is pending, and then its function begins; where there is no such function or entry it gives NIL.
abbrev pub enters : List FlowGraph → (tail : Bool) → Option (Found × ℕ) → (closed arguments : Vals) → Activation → List Waiting → State → Machine
enters graphs tail None closed vs a (Caller t frame caller ∷ ws) s =
    returns_to (node_of (slice_get graphs caller.graph) caller) true (nil ∷ []) caller ws s
enters graphs tail None closed vs a ws s = going a ws s
enters graphs tail (Some f) closed vs a ws s =
    let b = activation f.0 f.1 tail vs (suc s.taken) a.force in
    after b ws (λ u t. begins f.0.function b ws (record t { frame = frame_of f.0 closed })) ((take_one >> stack_at b.force.words >> spend (length vs + f.0.text.size) >> box_all vs) s)

-- A function has ended: its caller goes on. A form's own code has ended: the next form comes.
abbrev pub returns : List FlowGraph → Vals → Activation → List Waiting → State → Machine
returns graphs vs a [] s =
    after a [] (λ u t. record { control = Next (suc a.graph) (first_of_values vs); here = a; waiting = []; state = record t { frame = [] } }) (box_all vs s)
returns graphs vs a (Caller tail frame caller ∷ ws) s =
    returns_to (node_of (slice_get graphs caller.graph) caller) tail vs caller ws (record s { frame = frame })
returns graphs vs a (w ∷ ws) s = record { control = Returning vs; here = a; waiting = ws; state = s }

-- ---- forms

-- what is in force at a form: it is a pending call without arguments, with nothing round it
abbrev pub force_at_top : List Symbol → (nodes : ℕ) → Force
force_at_top symbols nodes = record { symbols = symbols; below = 0; words = frame_words nodes 0; catches = []; entries = []; kept = 0 }

abbrev pub form_activation : List Symbol → (graph : ℕ) → (nodes block born : ℕ) → Activation
form_activation symbols n nodes b born = record {
  graph = n;
  block = b;
  index = 0;
  delivered = nothing;
  arguments = [];
  born = born;
  force = force_at_top symbols nodes;
}

-- the form of a graph begins at its own code; a graph without code gives NIL
abbrev pub begins_at : List Symbol → (graph : ℕ) → (nodes : ℕ) → Option ℕ → Activation → State → Machine
begins_at symbols n nodes None a s = record { control = Next (suc n) nil; here = a; waiting = []; state = s }
begins_at symbols n nodes (Some block) a s =
    let b = form_activation symbols n nodes block s.taken in
    after b [] (λ u t. going b [] (record t { frame = [] })) ((begin nodes >> stack_at b.force.words) s)

abbrev pub begins_form : List Symbol → ℕ → Option FlowGraph → Val → Activation → State → Machine
begins_form symbols n None v a s = record { control = Over v; here = a; waiting = []; state = s }
begins_form symbols n (Some g) v a s = begins_at symbols n g.size (entry_of_code (named g.function g.code)) a s

-- ---- steps

module _ (symbols : List Symbol) (graphs : List FlowGraph) where
  abbrev pub runs_in : Option FlowGraph → Activation → List Waiting → State → Machine
  runs_in None a ws s = going a ws s
  runs_in (Some g) a ws s = runs_at g (first_function graphs a.graph) (node_at g a.block a.index) a ws s

  abbrev pub step_by : Control → Activation → List Waiting → State → Machine
  step_by Going a ws s = runs_in (slice_get graphs a.graph) a ws s
  step_by (Calling tail k closed vs entry) a ws s = enters graphs tail (at_entry (function_at 0 graphs k) entry) closed vs a ws s
  step_by (Returning vs) a ws s = returns graphs vs a ws s
  step_by (Leaving e) a ws s = leave_on e a ws s
  step_by (Stopped x p) a ws s = record { control = Stopped x p; here = a; waiting = ws; state = s }
  step_by (Next n v) a ws s = begins_form symbols n (slice_get graphs n) v a s
  step_by (Over v) a ws s = record { control = Over v; here = a; waiting = ws; state = s }

  abbrev pub step : Machine → Machine
  step m = step_by m.control m.here m.waiting m.state
