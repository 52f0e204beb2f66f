-- What further graphs do, computed: exits through extents and calls, calls of all kinds, big integers, and several forms.
use Rattle.std.specs.Prelude.{◌≡◌, refl, ℕ, ◌^◌, Bool, true, false, replicate, List, [], ◌∷◌, ◌++◌, Option, Some, None}
use Rattle.std.specs.declared.vec.Vec.{Vec}
use Rattle.std.specs.declared.alloc.Global.{Global as Allocator}
use Rattle.lisp_base.specs.declared.values.SymId.{SymId}
use Rattle.lisp_base.specs.declared.values.Val.{Val}
use Rattle.lisp_base.specs.declared.values.Val.TheVariants.{Sym, Ref}
use Rattle.lisp_base.specs.declared.primitives.Primitive.TheVariants as op
use Rattle.lisp_base.specs.declared.types.TypeName.TheVariants as name
use Rattle.lisp_base.specs.declared.types.TypeSpec.{TypeSpec}
use Rattle.lisp_base.specs.declared.types.TypeSpec.TheVariants as type
use Rattle.lisp_base.specs.Sort.{nil, truth, symbol, object}
use Rattle.lisp_base.specs.Spec.{Spec, Named}
use Rattle.core_form.specs.declared.tree.Variable.TheVariants.{Lexical}
use Rattle.core_form.specs.Tree.{Parameter, Core, Local, SetLocal, Global, SetGlobal, Progn, Let, Function as FunctionForm, Labels, CallLocal, CallGlobal, Funcall, Apply, FunLocal, SetFun, Primitive, The, Block, ReturnFrom, Tagbody, Go, Catch, Throw, Values, no_core, core, binding, no_binding, no_optional, optional, Lambda, lambda, define, no_definition, no_item, tag, step as item, node_count, Top}
use Rattle.core_form.specs.State.{Object, Pair}
use Rattle.core_form.specs.Run.{Outcome}
use Rattle.core_form.specs.Eval.{evaluate}
use Rattle.layers.specs.Layer.{after}
use Rattle.icr_graph.specs.declared.nodes.Node.{Node}
use Rattle.icr_graph.specs.declared.nodes.NodeKind.TheVariants as kind
use Rattle.icr_graph.specs.declared.nodes.Leaf.{Leaf}
use Rattle.icr_graph.specs.declared.nodes.Leaf.TheVariants as leaf
use Rattle.icr_graph.specs.declared.nodes.Operation.{Operation}
use Rattle.icr_graph.specs.declared.nodes.Operation.TheVariants as operation
use Rattle.icr_graph.specs.declared.nodes.Extent.TheVariants as extent
use Rattle.icr_graph.specs.declared.nodes.Leaving.TheVariants as way
use Rattle.icr_graph.specs.declared.parts.Cont.{Cont}
use Rattle.icr_graph.specs.declared.parts.Function.{Function}
use Rattle.icr_graph.specs.declared.parts.Variable.{Variable}
use Rattle.icr_graph.specs.Plain.{FlowGraph}
use Rattle.graph_meaning.specs.Running.{step}
use Rattle.graph_meaning.specs.AsLayer.{first_machine, outcome_at}
use Rattle.graph_meaning.specs.Everything.{everything}
use Rattle.graph_meaning.proofs.Examples.{names, top, at, node, cont, block, variable, extent_variable, graph, gives, ends, exits, int, quoted, parameter, asserting, special}

-- ---- what is common to them

-- what a program does with a fuel of 9, with these objects of its constants
abbrev program_does : (prelude forms : List Top) → (heap : List Object) → Outcome Val
program_does prelude forms heap = evaluate (record { prelude = prelude; forms = forms; heap = heap; symbols = names }) [] 9

-- what graphs do in 40 steps, of which the first are the prelude's, so many
abbrev graphs_do : (prelude : ℕ) → List FlowGraph → (heap : List Object) → Outcome Val
graphs_do prelude graphs heap = outcome_at (after (step names graphs) 40 (first_machine heap names prelude graphs []))

-- a graph does what a form does
abbrev Same : FlowGraph → Core → Type 0
Same g c = graphs_do 0 (g ∷ []) [] ≡ program_does [] (top c ∷ []) []

abbrev conts : List Cont
conts = replicate 10 (cont [])

-- a node that runs at the place of the form, with its cost and the forms that deliver its values, all of which box
abbrev gives_leaf : Leaf → (to cost levels : ℕ) → Node
gives_leaf l k n levels = node (kind.Ref l) (Some k) (at 0) n levels levels

abbrev combines : Operation → (operands : List ℕ) → (to cost levels : ℕ) → Node
combines o ks k n levels = node (kind.Combination o ks) (Some k) (at 0) n levels levels

abbrev binds : (variable value : ℕ) → Node
binds x k = node (kind.Bind x k) None (at 0) 0 0 0

-- the lexical variable X or B with this number in the form
abbrev lexical : (number name : ℕ) → List Spec → Parameter
lexical n s types = record { variable = Lexical n (symbol s); types = types }

abbrev variable_with_cell : Vec TypeSpec Allocator → ℕ → Option SymId → Variable
variable_with_cell types n x = record { number = n; name = x; cell = true; word = false; types = types }

-- a function at place 3 that begins at a block
abbrev function : (required optionals : ℕ) → (rest : Bool) → (parameters closed : List ℕ) → (block : ℕ) → Function
function n m rest xs closed b =
    record { lambda = Some 0; name = None; place = at 3; required = n; optional = m; rest = rest; parameters = xs; closed = closed; entries = b ∷ [] }

abbrev lambda_at_3 : Lambda → Core
lambda_at_3 l = FunctionForm (at 3) l

-- an integer outside the fixnums
abbrev big : Val
big = int (2 ^ 61)

-- (cons x b)
abbrev pair_of_variables : (first second : ℕ) → Core
pair_of_variables n m = Primitive (at 0) op.Cons (core (Local (at 0) n) (core (Local (at 0) m) no_core))

-- ---- exits

-- (catch t (let ((x 1)) (throw t x))) with a special variable
abbrev special_in_catch : Core
special_in_catch =
    Catch (at 0) (quoted truth) (Let (at 0) (binding special (quoted (int 1)) no_binding) (Throw (at 0) (quoted truth) (Global (at 0) (symbol 2))))

abbrev graph_of_special_passed : FlowGraph
graph_of_special_passed =
    graph (node_count special_in_catch)
    (gives truth 1 2 ∷ node (kind.Entry (extent.Catching 1 1) []) (Some 0) (at 0) 0 1 1 ∷ gives (int 1) 2 2 ∷ node (kind.Entry (extent.Special (symbol 2) 2) []) None (at 0) 0 0 0 ∷ gives truth 3 2 ∷ gives_leaf (leaf.Global (symbol 2)) 4 1 1 ∷ exits (way.Throw 3 4) None 0 ∷ ends 0 ∷ [])
    conts (block (0 ∷ 1 ∷ 2 ∷ 3 ∷ 4 ∷ 5 ∷ 6 ∷ []) [] ∷ block (7 ∷ []) [] ∷ []) [] []

special_passed : Same graph_of_special_passed special_in_catch
unfolding everything
special_passed = refl

-- (block b (catch t (return-from b 1)))
abbrev catch_in_block : Core
catch_in_block = Block (at 0) 1 (symbol 3) (Catch (at 0) (quoted truth) (ReturnFrom (at 0) 1 (quoted (int 1))))

abbrev graph_of_catch_passed : Vec TypeSpec Allocator → FlowGraph
graph_of_catch_passed types =
    graph (node_count catch_in_block)
    (node (kind.Entry (extent.Named 0 1) (4 ∷ 5 ∷ [])) (Some 0) (at 0) 1 1 1 ∷ gives truth 1 2 ∷ node (kind.Entry (extent.Catching 1 2) []) (Some 0) (at 0) 0 2 2 ∷ gives (int 1) 2 2 ∷ exits (way.ReturnFrom (symbol 3) 2) (Some 0) 0 ∷ exits way.Close (Some 0) 0 ∷ ends 0 ∷ [])
    conts (block (0 ∷ 1 ∷ 2 ∷ 3 ∷ 4 ∷ []) [] ∷ block (6 ∷ []) [] ∷ block (5 ∷ []) (1 ∷ []) ∷ []) (extent_variable types 1 ∷ []) []

catch_passed : (types : Vec TypeSpec Allocator) → Same (graph_of_catch_passed types) catch_in_block
unfolding everything
catch_passed types = refl

-- (block b (funcall (lambda () (return-from b 1)))): the block has a cell, so the call isn't in tail position
abbrev call_in_block : Core
call_in_block =
    Block (at 0) 1 (symbol 3) (Funcall (at 0) (lambda_at_3 (lambda 0 [] no_optional None (ReturnFrom (at 0) 1 (quoted (int 1))))) no_core)

abbrev graph_of_call_left : Vec TypeSpec Allocator → FlowGraph
graph_of_call_left types =
    graph (node_count call_in_block)
    (node (kind.Entry (extent.Named 0 1) (3 ∷ 5 ∷ [])) (Some 0) (at 0) 1 1 1 ∷ gives_leaf (leaf.Closed 1 true) 1 2 0 ∷ combines (operation.CallKnown 1 None false) (1 ∷ []) 0 0 2 ∷ exits way.Close (Some 0) 0 ∷ gives (int 1) 2 2 ∷ exits (way.ReturnFrom (symbol 3) 2) (Some 0) 0 ∷ ends 0 ∷ [])
    conts (block (0 ∷ 1 ∷ 2 ∷ 3 ∷ []) (1 ∷ []) ∷ block (6 ∷ []) [] ∷ block (4 ∷ 5 ∷ []) [] ∷ []) (variable_with_cell types 1 None ∷ []) (function 0 0 false [] (0 ∷ []) 2 ∷ [])

call_left : (types : Vec TypeSpec Allocator) → Same (graph_of_call_left types) call_in_block
unfolding everything
call_left types = refl

-- (block b (tagbody (go x) b (return-from b 1) x (go b)))
abbrev tagbody_in_block : Core
tagbody_in_block =
    Block (at 0) 1 (symbol 3) (Tagbody (at 0) (item (Go (at 0) 3) (tag 2 (Sym (symbol 3)) (item (ReturnFrom (at 0) 1 (quoted (int 1))) (tag 3 (Sym (symbol 2)) (item (Go (at 0) 2) no_item))))))

abbrev graph_of_going_back : Vec TypeSpec Allocator → FlowGraph
graph_of_going_back types =
    graph (node_count tagbody_in_block)
    (node (kind.Entry (extent.Named 0 1) (4 ∷ [])) (Some 0) (at 0) 1 1 1 ∷ node (kind.Entry (extent.Tags 1 (record { number = 2; name = Sym (symbol 3); block = 2 } ∷ record { number = 3; name = Sym (symbol 2); block = 3 } ∷ [])) (2 ∷ 5 ∷ [])) None (at 0) 1 0 0 ∷ exits (way.Go 3 (Sym (symbol 2))) (Some 1) 1 ∷ gives (int 1) 1 2 ∷ exits (way.ReturnFrom (symbol 3) 1) (Some 0) 0 ∷ exits (way.Go 2 (Sym (symbol 3))) (Some 1) 1 ∷ ends 0 ∷ [])
    conts (block (0 ∷ 1 ∷ 2 ∷ []) [] ∷ block (6 ∷ []) [] ∷ block (3 ∷ 4 ∷ []) [] ∷ block (5 ∷ []) [] ∷ []) (extent_variable types 1 ∷ extent_variable types 2 ∷ []) []

gone_back : (types : Vec TypeSpec Allocator) → Same (graph_of_going_back types) tagbody_in_block
unfolding everything
gone_back types = refl

-- ---- values and variables

-- (the integer (values 1 2))
abbrev typed_values : Core
typed_values = The (at 0) (Named name.Integer) (Values (at 0) (core (quoted (int 1)) (core (quoted (int 2)) no_core)))

abbrev graph_of_typed_values : FlowGraph
graph_of_typed_values =
    graph (node_count typed_values)
    (gives (int 1) 2 3 ∷ gives (int 2) 3 1 ∷ combines operation.Values (2 ∷ 3 ∷ []) 1 0 1 ∷ combines operation.Pass (1 ∷ []) 0 1 1 ∷ ends 0 ∷ [])
    (cont [] ∷ asserting (type.Named name.Integer) ∷ cont [] ∷ cont [] ∷ []) (block (0 ∷ 1 ∷ 2 ∷ 3 ∷ 4 ∷ []) [] ∷ []) [] []

values_passed_on : Same graph_of_typed_values typed_values
unfolding everything
values_passed_on = refl

-- (let ((x 1)) (funcall (lambda () (setq x 2))) x)
abbrev set_inside : Core
set_inside =
    Let (at 0) (binding parameter (quoted (int 1)) no_binding) (Progn (at 0) (core (Funcall (at 0) (lambda_at_3 (lambda 0 [] no_optional None (SetLocal (at 0) 1 (quoted (int 2))))) no_core) (core (Local (at 0) 1) no_core)))

abbrev graph_of_cell : Vec TypeSpec Allocator → FlowGraph
graph_of_cell types =
    graph (node_count set_inside)
    (gives (int 1) 1 2 ∷ binds 0 1 ∷ gives_leaf (leaf.Closed 1 true) 2 3 0 ∷ node (kind.Combination (operation.CallKnown 1 None false) (2 ∷ [])) None (at 0) 0 1 0 ∷ gives_leaf (leaf.Variable 0) 0 1 3 ∷ ends 0 ∷ gives (int 2) 3 2 ∷ node (kind.Set 0 3) (Some 4) (at 0) 0 1 1 ∷ ends 4 ∷ [])
    conts (block (0 ∷ 1 ∷ 2 ∷ 3 ∷ 4 ∷ 5 ∷ []) [] ∷ block (6 ∷ 7 ∷ 8 ∷ []) [] ∷ []) (variable_with_cell types 1 (Some (symbol 2)) ∷ []) (function 0 0 false [] (0 ∷ []) 1 ∷ [])

set_in_cell : (types : Vec TypeSpec Allocator) → Same (graph_of_cell types) set_inside
unfolding everything
set_in_cell types = refl

-- (let ((x BIG)) (+ x x)) with x declared an integer, so that a word may hold it
abbrev sum_of_word : Core
sum_of_word =
    Let (at 0) (binding (lexical 1 2 (Named name.Integer ∷ [])) (quoted big) no_binding) (Primitive (at 0) op.Add (core (Local (at 0) 1) (core (Local (at 0) 1) no_core)))

abbrev graph_of_word : Vec TypeSpec Allocator → FlowGraph
graph_of_word types =
    graph (node_count sum_of_word)
    (node (kind.Ref (leaf.Constant big)) (Some 1) (at 0) 2 1 0 ∷ binds 0 1 ∷ node (kind.Ref (leaf.Variable 0)) (Some 2) (at 0) 2 1 0 ∷ node (kind.Ref (leaf.Variable 0)) (Some 3) (at 0) 1 1 0 ∷ combines (operation.Primitive op.Add) (2 ∷ 3 ∷ []) 0 0 2 ∷ ends 0 ∷ [])
    (cont [] ∷ cont [] ∷ asserting (type.Named name.Integer) ∷ asserting (type.Named name.Integer) ∷ []) (block (0 ∷ 1 ∷ 2 ∷ 3 ∷ 4 ∷ 5 ∷ []) [] ∷ []) (record { number = 1; name = Some (symbol 2); cell = false; word = true; types = types } ∷ []) []

word_added : (types : Vec TypeSpec Allocator) → Same (graph_of_word types) sum_of_word
unfolding everything
word_added types = refl

-- (car BIG): an operand of a primitive that isn't arithmetic is boxed before it is tested
abbrev car_of_big : Core
car_of_big = Primitive (at 0) op.Car (core (quoted big) no_core)

abbrev graph_of_operand : FlowGraph
graph_of_operand =
    graph (node_count car_of_big)
    (gives big 1 2 ∷ combines (operation.Primitive op.Car) (1 ∷ []) 0 0 1 ∷ ends 0 ∷ [])
    (cont [] ∷ asserting (type.Named name.List) ∷ []) (block (0 ∷ 1 ∷ 2 ∷ []) [] ∷ []) [] []

operand_boxed : Same graph_of_operand car_of_big
unfolding everything
operand_boxed = refl

-- ---- calls

-- one that gives back its only argument: (lambda (x) x)
abbrev itself : Core
itself = lambda_at_3 (lambda 0 (lexical 1 2 [] ∷ []) no_optional None (Local (at 0) 1))

abbrev body_of_itself : List Node
body_of_itself = gives_leaf (leaf.Argument 0) 8 0 0 ∷ binds 0 8 ∷ gives_leaf (leaf.Variable 0) 9 1 1 ∷ ends 9 ∷ []

-- (funcall (lambda (x) x) BIG) in tail position
abbrev call_at_end : Core
call_at_end = Funcall (at 0) itself (core (quoted big) no_core)

abbrev graph_of_call_at_end : Vec TypeSpec Allocator → FlowGraph
graph_of_call_at_end types =
    graph (node_count call_at_end)
    (gives_leaf (leaf.Closed 1 true) 1 2 0 ∷ gives big 2 1 ∷ combines (operation.CallKnown 1 None true) (1 ∷ 2 ∷ []) 0 0 1 ∷ ends 0 ∷ body_of_itself)
    conts (block (0 ∷ 1 ∷ 2 ∷ 3 ∷ []) [] ∷ block (4 ∷ 5 ∷ 6 ∷ 7 ∷ []) [] ∷ []) (variable types 1 ∷ []) (function 1 0 false (0 ∷ []) [] 1 ∷ [])

called_at_end : (types : Vec TypeSpec Allocator) → Same (graph_of_call_at_end types) call_at_end
unfolding everything
called_at_end types = refl

-- (values (funcall (lambda (x) x) BIG)): the call isn't in tail position, so its values are boxed
abbrev call_for_values : Core
call_for_values = Values (at 0) (core call_at_end no_core)

abbrev graph_of_call_for_values : Vec TypeSpec Allocator → FlowGraph
graph_of_call_for_values types =
    graph (node_count call_for_values)
    (gives_leaf (leaf.Closed 1 true) 1 3 0 ∷ gives big 2 1 ∷ combines (operation.CallKnown 1 None false) (1 ∷ 2 ∷ []) 3 0 1 ∷ combines operation.Values (3 ∷ []) 0 0 1 ∷ body_of_itself ++ (ends 0 ∷ []))
    conts (block (0 ∷ 1 ∷ 2 ∷ 3 ∷ 8 ∷ []) [] ∷ block (4 ∷ 5 ∷ 6 ∷ 7 ∷ []) [] ∷ []) (variable types 1 ∷ []) (function 1 0 false (0 ∷ []) [] 1 ∷ [])

called_for_values : (types : Vec TypeSpec Allocator) → Same (graph_of_call_for_values types) call_for_values
unfolding everything
called_for_values types = refl

-- (let ((x (lambda (x) x))) (funcall x)): an argument too few, for a function that isn't known in place
abbrev call_of_variable : Core
call_of_variable = Let (at 0) (binding (lexical 2 2 []) itself no_binding) (Funcall (at 0) (Local (at 0) 2) no_core)

abbrev graph_of_wrong_call : Vec TypeSpec Allocator → FlowGraph
graph_of_wrong_call types =
    graph (node_count call_of_variable)
    (gives_leaf (leaf.Functional 1) 1 2 1 ∷ binds 1 1 ∷ gives_leaf (leaf.Variable 1) 2 2 1 ∷ combines (operation.Funcall true) (2 ∷ []) 0 0 2 ∷ ends 0 ∷ gives_leaf (leaf.Argument 0) 8 0 0 ∷ binds 0 8 ∷ gives_leaf (leaf.Variable 0) 9 1 1 ∷ ends 9 ∷ [])
    conts (block (0 ∷ 1 ∷ 2 ∷ 3 ∷ 4 ∷ []) [] ∷ block (5 ∷ 6 ∷ 7 ∷ 8 ∷ []) [] ∷ []) (variable types 1 ∷ variable types 2 ∷ []) (function 1 0 false (0 ∷ []) [] 1 ∷ [])

argument_missing : (types : Vec TypeSpec Allocator) → Same (graph_of_wrong_call types) call_of_variable
unfolding everything
argument_missing types = refl

-- (funcall (lambda (x) x) BIG) with x declared an integer and a fixnum: the second check fails
abbrev call_with_types : Core
call_with_types =
    Funcall (at 0) (lambda_at_3 (lambda 0 (lexical 1 2 (Named name.Integer ∷ Named name.Fixnum ∷ []) ∷ []) no_optional None (Local (at 0) 1))) (core (quoted big) no_core)

abbrev asserting_at_3 : TypeSpec → Cont
asserting_at_3 t = cont (record { spec = t; place = at 3; checked = true } ∷ [])

abbrev graph_of_typed_parameter : Vec TypeSpec Allocator → FlowGraph
graph_of_typed_parameter types =
    graph (node_count call_with_types)
    (gives_leaf (leaf.Closed 1 true) 1 2 0 ∷ gives big 2 1 ∷ combines (operation.CallKnown 1 None true) (1 ∷ 2 ∷ []) 0 0 1 ∷ ends 0 ∷ gives_leaf (leaf.Argument 0) 3 0 0 ∷ combines operation.Pass (3 ∷ []) 4 1 0 ∷ combines operation.Pass (4 ∷ []) 5 1 0 ∷ binds 0 5 ∷ gives_leaf (leaf.Variable 0) 6 1 1 ∷ ends 6 ∷ [])
    (cont [] ∷ cont [] ∷ cont [] ∷ asserting_at_3 (type.Named name.Integer) ∷ asserting_at_3 (type.Named name.Fixnum) ∷ conts) (block (0 ∷ 1 ∷ 2 ∷ 3 ∷ []) [] ∷ block (4 ∷ 5 ∷ 6 ∷ 7 ∷ 8 ∷ 9 ∷ []) [] ∷ []) (variable types 1 ∷ []) (function 1 0 false (0 ∷ []) [] 1 ∷ [])

parameter_tested : (types : Vec TypeSpec Allocator) → Same (graph_of_typed_parameter types) call_with_types
unfolding everything
parameter_tested types = refl

-- (lambda (&optional (x 1 b)) (cons x b))
abbrev with_optional : Core
with_optional =
    lambda_at_3 (lambda 0 [] (optional (lexical 1 2 []) (quoted (int 1)) (Some (lexical 2 3 [])) no_optional) None (pair_of_variables 1 2))

abbrev body_with_optional : List Node
body_with_optional =
    gives_leaf (leaf.Supplied 0) 3 0 0 ∷ node (kind.If 3) None (at 0) 0 0 0 ∷ gives_leaf (leaf.Argument 0) 4 0 0 ∷ gives (int 1) 4 1 ∷ binds 0 4 ∷ gives_leaf (leaf.Supplied 0) 5 0 0 ∷ binds 1 5 ∷ gives_leaf (leaf.Variable 0) 6 2 1 ∷ gives_leaf (leaf.Variable 1) 7 1 1 ∷ combines (operation.Primitive op.Cons) (6 ∷ 7 ∷ []) 8 0 1 ∷ ends 8 ∷ []

-- a graph with this function, whose own code begins behind it, and which the form calls in place with some arguments
abbrev graph_of_optional : Vec TypeSpec Allocator → (form : Core) → (given : List Node) → (arguments code : List ℕ) → FlowGraph
graph_of_optional types c given arguments code =
    graph (node_count c)
    (body_with_optional ++ (gives_leaf (leaf.Closed 1 true) 1 2 0 ∷ combines (operation.CallKnown 1 None true) (1 ∷ arguments) 0 0 1 ∷ ends 0 ∷ given))
    conts (block code [] ∷ block (0 ∷ 1 ∷ []) (2 ∷ 3 ∷ []) ∷ block (2 ∷ []) (4 ∷ []) ∷ block (3 ∷ []) (4 ∷ []) ∷ block (4 ∷ 5 ∷ 6 ∷ 7 ∷ 8 ∷ 9 ∷ 10 ∷ []) [] ∷ []) (variable types 1 ∷ variable types 2 ∷ []) (function 0 1 false (0 ∷ 1 ∷ []) [] 1 ∷ [])

abbrev call_without : Core
call_without = Funcall (at 0) with_optional no_core

optional_missing : (types : Vec TypeSpec Allocator) → Same (graph_of_optional types call_without [] [] (11 ∷ 12 ∷ 13 ∷ [])) call_without
unfolding everything
optional_missing types = refl

abbrev call_with_seven : Core
call_with_seven = Funcall (at 0) with_optional (core (quoted (int 7)) no_core)

optional_given : (types : Vec TypeSpec Allocator) → Same (graph_of_optional types call_with_seven (gives (int 7) 2 1 ∷ []) (2 ∷ []) (11 ∷ 14 ∷ 12 ∷ 13 ∷ [])) call_with_seven
unfolding everything
optional_given types = refl

-- (funcall (lambda (x &rest b) (cons x b)) 1 2 3)
abbrev call_with_rest : Core
call_with_rest =
    Funcall (at 0) (lambda_at_3 (lambda 0 (lexical 1 2 [] ∷ []) no_optional (Some (lexical 2 3 [])) (pair_of_variables 1 2))) (core (quoted (int 1)) (core (quoted (int 2)) (core (quoted (int 3)) no_core)))

abbrev graph_of_rest : Vec TypeSpec Allocator → FlowGraph
graph_of_rest types =
    graph (node_count call_with_rest)
    (gives_leaf (leaf.Closed 1 true) 1 2 0 ∷ gives (int 1) 2 1 ∷ gives (int 2) 3 1 ∷ gives (int 3) 4 1 ∷ combines (operation.CallKnown 1 None true) (1 ∷ 2 ∷ 3 ∷ 4 ∷ []) 0 0 1 ∷ ends 0 ∷ gives_leaf (leaf.Argument 0) 5 0 0 ∷ binds 0 5 ∷ gives_leaf (leaf.RestFrom 1) 5 0 0 ∷ binds 1 5 ∷ gives_leaf (leaf.Variable 0) 6 2 1 ∷ gives_leaf (leaf.Variable 1) 7 1 1 ∷ combines (operation.Primitive op.Cons) (6 ∷ 7 ∷ []) 8 0 1 ∷ ends 8 ∷ [])
    conts (block (0 ∷ 1 ∷ 2 ∷ 3 ∷ 4 ∷ 5 ∷ []) [] ∷ block (6 ∷ 7 ∷ 8 ∷ 9 ∷ 10 ∷ 11 ∷ 12 ∷ 13 ∷ []) [] ∷ []) (variable types 1 ∷ variable types 2 ∷ []) (function 1 0 true (0 ∷ 1 ∷ []) [] 1 ∷ [])

rest_listed : (types : Vec TypeSpec Allocator) → Same (graph_of_rest types) call_with_rest
unfolding everything
rest_listed types = refl

-- (let ((x BIG)) (labels ((b (b) (cons x b))) (b 7))): the function closes over x
abbrev local_call : Core
local_call =
    Let (at 0) (binding parameter (quoted big) no_binding) (Labels (at 0) (define (at 3) 5 (symbol 3) (lambda 0 (lexical 2 3 [] ∷ []) no_optional None (pair_of_variables 1 2)) no_definition) (CallLocal (at 0) 5 (core (quoted (int 7)) no_core)))

abbrev graph_of_local_call : Vec TypeSpec Allocator → FlowGraph
graph_of_local_call types =
    graph (node_count local_call)
    (gives big 1 2 ∷ binds 0 1 ∷ gives (int 7) 3 3 ∷ gives_leaf (leaf.Closed 1 false) 2 0 0 ∷ combines (operation.CallKnown 1 None true) (2 ∷ 3 ∷ []) 0 0 3 ∷ ends 0 ∷ gives_leaf (leaf.Argument 0) 4 0 0 ∷ binds 1 4 ∷ gives_leaf (leaf.Variable 0) 5 2 1 ∷ gives_leaf (leaf.Variable 1) 6 1 1 ∷ combines (operation.Primitive op.Cons) (5 ∷ 6 ∷ []) 7 0 1 ∷ ends 7 ∷ [])
    conts (block (0 ∷ 1 ∷ 2 ∷ 3 ∷ 4 ∷ 5 ∷ []) [] ∷ block (6 ∷ 7 ∷ 8 ∷ 9 ∷ 10 ∷ 11 ∷ []) [] ∷ []) (variable types 1 ∷ variable types 2 ∷ []) (record (function 1 0 false (1 ∷ []) (0 ∷ []) 1) { name = Some (symbol 3) } ∷ [])

local_function_called : (types : Vec TypeSpec Allocator) → Same (graph_of_local_call types) local_call
unfolding everything
local_function_called types = refl

-- (apply (lambda (x b) (cons x b)) 1 '(2)), where the list is an object of the program
abbrev call_with_list : Core
call_with_list =
    Apply (at 0) (lambda_at_3 (lambda 0 (lexical 1 2 [] ∷ lexical 2 3 [] ∷ []) no_optional None (pair_of_variables 1 2))) (core (quoted (int 1)) (core (quoted (Ref (object 0))) no_core))

abbrev graph_of_apply : Vec TypeSpec Allocator → FlowGraph
graph_of_apply types =
    graph (node_count call_with_list)
    (gives_leaf (leaf.Functional 1) 1 2 1 ∷ gives (int 1) 2 1 ∷ gives (Ref (object 0)) 3 1 ∷ combines (operation.Apply true) (1 ∷ 2 ∷ 3 ∷ []) 0 0 1 ∷ ends 0 ∷ gives_leaf (leaf.Argument 0) 4 0 0 ∷ binds 0 4 ∷ gives_leaf (leaf.Argument 1) 4 0 0 ∷ binds 1 4 ∷ gives_leaf (leaf.Variable 0) 5 2 1 ∷ gives_leaf (leaf.Variable 1) 6 1 1 ∷ combines (operation.Primitive op.Cons) (5 ∷ 6 ∷ []) 7 0 1 ∷ ends 7 ∷ [])
    conts (block (0 ∷ 1 ∷ 2 ∷ 3 ∷ 4 ∷ []) [] ∷ block (5 ∷ 6 ∷ 7 ∷ 8 ∷ 9 ∷ 10 ∷ 11 ∷ 12 ∷ []) [] ∷ []) (variable types 1 ∷ variable types 2 ∷ []) (function 2 0 false (0 ∷ 1 ∷ []) [] 1 ∷ [])

abbrev list_of_two : List Object
list_of_two = Pair (int 2) nil ∷ []

list_applied : (types : Vec TypeSpec Allocator) → graphs_do 0 (graph_of_apply types ∷ []) list_of_two ≡ program_does [] (top call_with_list ∷ []) list_of_two
unfolding everything
list_applied types = refl

-- ---- several forms

-- (setq x (lambda () 1)) with a global x
abbrev set_function : Core
set_function = SetGlobal (at 0) (symbol 2) (lambda_at_3 (lambda 0 [] no_optional None (quoted (int 1))))

abbrev graph_of_set_function : FlowGraph
graph_of_set_function =
    graph (node_count set_function)
    (gives_leaf (leaf.Functional 1) 1 2 1 ∷ combines (operation.SetGlobal (symbol 2)) (1 ∷ []) 0 0 1 ∷ ends 0 ∷ gives (int 1) 2 1 ∷ ends 2 ∷ [])
    conts (block (0 ∷ 1 ∷ 2 ∷ []) [] ∷ block (3 ∷ 4 ∷ []) [] ∷ []) [] (function 0 0 false [] [] 1 ∷ [])

-- (funcall (lambda (x) x) (funcall x)), which calls a function of the form before and then its own
abbrev call_of_global : Core
call_of_global = Funcall (at 0) itself (core (Funcall (at 0) (Global (at 0) (symbol 2)) no_core) no_core)

abbrev graph_of_global_call : Vec TypeSpec Allocator → FlowGraph
graph_of_global_call types =
    graph (node_count call_of_global)
    (gives_leaf (leaf.Closed 1 true) 1 2 0 ∷ gives_leaf (leaf.Global (symbol 2)) 2 2 1 ∷ combines (operation.Funcall false) (2 ∷ []) 3 0 1 ∷ combines (operation.CallKnown 1 None true) (1 ∷ 3 ∷ []) 0 0 1 ∷ body_of_itself ++ (ends 0 ∷ []))
    conts (block (0 ∷ 1 ∷ 2 ∷ 3 ∷ 8 ∷ []) [] ∷ block (4 ∷ 5 ∷ 6 ∷ 7 ∷ []) [] ∷ []) (variable types 1 ∷ []) (function 1 0 false (0 ∷ []) [] 1 ∷ [])

two_forms : (types : Vec TypeSpec Allocator) → graphs_do 0 (graph_of_set_function ∷ graph_of_global_call types ∷ []) [] ≡ program_does [] (top set_function ∷ top call_of_global ∷ []) []
unfolding everything
two_forms types = refl

-- (defun b (x) x) of the prelude
abbrev definition : Core
definition =
    Progn (at 0) (core (SetFun (at 0) (symbol 3) (Labels (at 0) (define (at 3) 1 (symbol 3) (lambda 0 (lexical 2 2 [] ∷ []) no_optional None (Block (at 0) 3 (symbol 3) (Local (at 0) 2))) no_definition) (FunLocal (at 0) 1))) (core (quoted (Sym (symbol 3))) no_core))

abbrev graph_of_definition : Vec TypeSpec Allocator → FlowGraph
graph_of_definition types =
    record (graph (node_count definition)
    (gives_leaf (leaf.Functional 1) 1 4 2 ∷ node (kind.Combination (operation.SetFunction (symbol 3)) (1 ∷ [])) None (at 0) 0 1 0 ∷ gives (Sym (symbol 3)) 0 1 ∷ ends 0 ∷ gives_leaf (leaf.Argument 0) 2 0 0 ∷ binds 0 2 ∷ node (kind.Entry (extent.Named 1 2) (8 ∷ [])) (Some 3) (at 0) 1 1 1 ∷ gives_leaf (leaf.Variable 0) 3 1 2 ∷ exits way.Close (Some 6) 0 ∷ ends 3 ∷ [])
    conts (block (0 ∷ 1 ∷ 2 ∷ 3 ∷ []) [] ∷ block (4 ∷ 5 ∷ 6 ∷ 7 ∷ 8 ∷ []) (2 ∷ []) ∷ block (9 ∷ []) [] ∷ []) (variable types 2 ∷ extent_variable types 3 ∷ []) (record (function 1 0 false (0 ∷ []) [] 1) { name = Some (symbol 3) } ∷ [])) { defines = Some (record { name = symbol 3; lambda = 0 }) }

-- (b 7)
abbrev call_by_name : Core
call_by_name = CallGlobal (at 0) (symbol 3) (core (quoted (int 7)) no_core)

abbrev graph_of_call_by_name : FlowGraph
graph_of_call_by_name =
    graph (node_count call_by_name)
    (gives (int 7) 1 2 ∷ combines (operation.CallGlobal (symbol 3) true) (1 ∷ []) 0 0 1 ∷ ends 0 ∷ [])
    conts (block (0 ∷ 1 ∷ 2 ∷ []) [] ∷ []) [] []

prelude_function_called : (types : Vec TypeSpec Allocator) → graphs_do 1 (graph_of_definition types ∷ graph_of_call_by_name ∷ []) [] ≡ program_does (top definition ∷ []) (top call_by_name ∷ []) []
unfolding everything
prelude_function_called types = refl
