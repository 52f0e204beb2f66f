-- The effects of nodes: on variables, functions and values. They are those of the nodes of a program. (This project's own.)
use Rattle.std.specs.Prelude.{ℕ, ◌+◌, ◌-◌, ◌*◌, Bool, true, false, not, nat_lt, if◌then◌else◌, List, [], ◌∷◌, length, map, filter, drop, Option, Some, None}
use Rattle.lisp_base.specs.declared.values.Val.{Val}
use Rattle.lisp_base.specs.declared.values.Place.{Place}
use Rattle.lisp_base.specs.Sort.{nil}
use Rattle.lisp_base.specs.Reading.{spec_of}
use Rattle.core_form.specs.Arithmetic.{arithmetic}
use Rattle.core_form.specs.State.{Fun, State, all_big, first_of_values}
use Rattle.core_form.specs.Effect.{Effect, ◌>>=◌, ◌>>◌, pure, read, allot, boxes_more, deliver_more, box_all, add}
use Rattle.core_form.specs.Force.{Vals, Force, make_list, object_at, expect, holds, one}
use Rattle.core_form.specs.Primitives.{truth_of, argument, act, global_value, global_function, set_global}
use Rattle.core_form.specs.Step.{in_cell, in_frame_of, place_in, change_in, set_function}
use Rattle.icr_graph.specs.declared.nodes.Leaf.{Leaf}
use Rattle.icr_graph.specs.declared.nodes.Leaf.TheVariants as leaf
use Rattle.icr_graph.specs.declared.nodes.Operation.{Operation}
use Rattle.icr_graph.specs.declared.nodes.Operation.TheVariants as operation
use Rattle.icr_graph.specs.declared.nodes.NodeKind.{NodeKind}
use Rattle.icr_graph.specs.declared.nodes.NodeKind.TheVariants as kind
use Rattle.icr_graph.specs.declared.nodes.Charges.{Charges}
use Rattle.icr_graph.specs.declared.parts.Assertion.{Assertion}
use Rattle.icr_graph.specs.declared.parts.Variable.{Variable}
use Rattle.icr_graph.specs.Plain.{FlowGraph}
use Rattle.graph_meaning.specs.Machine.{Delivered, Activation, value_at}
use Rattle.graph_meaning.specs.Reading.{assertions_on, is_extent, closed_by, lambda_of}

-- ---- delivering

-- what the forms of the source add that deliver these values
unfoldable pub delivered_by : Charges → Vals → Effect Vals
delivered_by c vs =
    deliver_more (c.levels * (length vs - 1)) >> boxes_more (c.levels * all_big vs) (c.boxing * all_big vs) >> pure vs

-- ---- assertions

unfoldable pub test : Force → Assertion → Val → Effect (Unit {0})
test f t v = if t.checked then expect f t.place (spec_of t.spec) v else pure tt

-- those on one value, in their order
unfoldable pub test_all : Force → List Assertion → Val → Effect (Unit {0})
test_all f [] v = pure tt
test_all f (t ∷ ts) v = test f t v >> test_all f ts v

-- those on the first values of continuations, from left to right
unfoldable pub test_operands : FlowGraph → Force → Delivered → List ℕ → Effect (Unit {0})
test_operands g f d [] = pure tt
test_operands g f d (k ∷ ks) = test_all f (assertions_on (g.cont k)) (value_at d k) >> test_operands g f d ks

-- ---- variables

abbrev pub held_by : Variable → State → Val
held_by x s = if x.cell then in_cell (object_at (in_frame_of x.number s) s) else in_frame_of x.number s

unfoldable pub box_for : Variable → Val → Effect (Unit {0})
box_for x v = if x.word then pure tt else box_all (v ∷ [])

unfoldable pub bind : Variable → Val → Effect Vals
bind x v = box_for x v >> place_in x.cell x.number v >> one v

unfoldable pub assign : Variable → Val → Effect Vals
assign x v = box_for x v >> change_in x.cell x.number v >> one v

-- with a variable of the graph; where there is none, as in no whole graph, nothing happens
abbrev pub on_variable : Option Variable → Val → (Variable → Effect Vals) → Effect Vals
on_variable None v m = one v
on_variable (Some x) v m = m x

-- ---- functions

abbrev pub is_source_variable : Variable → Bool
is_source_variable x = not (is_extent x.name)

abbrev pub frame_values : List Variable → State → Vals
frame_values xs s = map (λ x. in_frame_of x.number s) xs

abbrev pub big_held : List Variable → State → ℕ
big_held xs s = all_big (map (λ x. held_by x s) (filter is_source_variable xs))

-- what the variables hold that a function closes over
unfoldable pub captured : List Variable → Effect Vals
captured xs = read (big_held xs) >>= (λ n. boxes_more n n >> read (frame_values xs))

-- a new function by the number of its lambda, where the first function of the graph has this number among all; a form's own
-- code is none
unfoldable pub new_function : (start : ℕ) → Option ℕ → List Variable → Effect Vals
new_function start None xs = one nil
new_function start (Some k) xs = captured xs >>= (λ vs. allot (2 + length vs) >> add (Fun (start + k) vs) >>= one)

unfoldable pub closed_values : (counted : Bool) → List Variable → Effect Vals
closed_values true xs = captured xs >>= (λ vs. allot (2 + length vs) >> pure vs)
closed_values false xs = captured xs

-- ---- leaves: the first function of the graph has this number among all

unfoldable pub leaf_values : FlowGraph → (start : ℕ) → Activation → Place → Leaf → Effect Vals
leaf_values g start a p (leaf.Constant v) = one v
leaf_values g start a p (leaf.Variable x) = on_variable (g.variable x) nil (λ y. read (held_by y) >>= one)
leaf_values g start a p (leaf.Global s) = global_value a.force p s
leaf_values g start a p (leaf.GlobalFunction s) = global_function a.force p s
leaf_values g start a p (leaf.Functional f) = new_function start (lambda_of (g.function f)) (closed_by g (g.function f))
leaf_values g start a p (leaf.Closed f counted) = closed_values counted (closed_by g (g.function f))
leaf_values g start a p (leaf.Argument i) = one (argument i a.arguments)
leaf_values g start a p (leaf.Supplied i) = one (truth_of (nat_lt i (length a.arguments)))
leaf_values g start a p (leaf.RestFrom i) = make_list (drop i a.arguments) >>= one

-- ---- operations other than calls

-- what is boxed before the operands' assertions are tested
unfoldable pub box_before : NodeKind → Vals → Effect (Unit {0})
box_before (kind.Combination (operation.Primitive q) os) vs = if arithmetic q then pure tt else box_all vs
box_before k vs = pure tt

-- On the first values of the operands, and on all values of the only one. Calls are no such operations.
unfoldable pub operate : Force → Place → Operation → (firsts all : Vals) → Effect Vals
operate f p (operation.Primitive q) vs all = act f p q vs
operate f p (operation.Is t) vs all = read (holds f (spec_of t) (first_of_values vs)) >>= (λ b. one (truth_of b))
operate f p (operation.SetGlobal s) vs all = set_global s (first_of_values vs)
operate f p (operation.SetFunction s) vs all = set_function s (first_of_values vs)
operate f p operation.Values vs all = pure vs
operate f p operation.Pass vs all = pure all
operate f p (operation.CallGlobal name tail) vs all = pure []
operate f p (operation.Funcall tail) vs all = pure []
operate f p (operation.Apply tail) vs all = pure []
operate f p (operation.CallKnown function entry tail) vs all = pure []
