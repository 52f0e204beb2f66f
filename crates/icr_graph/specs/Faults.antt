-- Where each edit is refused, the first fault in order. This project's own.
use Rattle.std.specs.Prelude.{◌≡◌, ◌⊎◌, ℕ, Bool, true, false, not, ◌&&◌, ◌||◌, ◌==◌, if◌then◌else◌, List, [], ◌∷◌, Option, Some, None, is_some}
use Rattle.std.specs.List.{list_any, list_all}
use Rattle.icr_graph.specs.declared.faults.EditFault.{EditFault}
use Rattle.icr_graph.specs.declared.faults.EditFault.TheVariants.{NotLive, Linked, NotLinked, StillUsed, Memory}
use Rattle.icr_graph.specs.declared.nodes.NodeKind.{NodeKind}
use Rattle.icr_graph.specs.Lists.{has_number, behind}
use Rattle.icr_graph.specs.declared.nodes.Node.{Node}
use Rattle.icr_graph.specs.declared.parts.Function.{Function}
use Rattle.icr_graph.specs.Kinds.{operands_of, arrivals_of, variables_of, functions_of, is_entry_kind, is_exit_kind}
use Rattle.icr_graph.specs.Whole.{are_variables, are_functions}
use Rattle.icr_graph.specs.Plain.{FlowGraph, nodes_in, blocks_before, blocks_after, arriving_at, entered_by, dest_of, cont_of, block_of, entry_left_at}

-- the fault is the one that is stated, or none is stated and memory was wanted
abbrev pub Refused : Option EditFault → EditFault → Type 0
Refused stated fault = (stated ≡ Some fault) ⊎ ((stated ≡ None) × (fault ≡ Memory))

-- the fault is the one that is stated, or memory was wanted before it was looked for
abbrev pub MayRefuse : Option EditFault → EditFault → Type 0
MayRefuse stated fault = (fault ≡ Memory) ⊎ (stated ≡ Some fault)

abbrev pub is_block : FlowGraph → ℕ → Bool
is_block g b = is_some (g.block b)

abbrev pub is_node : FlowGraph → ℕ → Bool
is_node g n = is_some (g.node n)

abbrev pub is_cont : FlowGraph → ℕ → Bool
is_cont g k = is_some (g.cont k)

-- the second block comes after the first
abbrev pub is_edge : FlowGraph → ℕ → ℕ → Bool
is_edge g from to = has_number to (blocks_after g from)

abbrev pub is_empty : List ℕ → Bool
is_empty [] = true
is_empty (n ∷ ns) = false

-- the block is the entry of a function or a non-local entry
abbrev pub is_entered : FlowGraph → ℕ → Bool
is_entered g b = not (is_empty (entered_by g b)) || not (is_empty (arriving_at g b))

abbrev pub link_fault : FlowGraph → ℕ → ℕ → Option EditFault
link_fault g from to =
    if not (is_block g from && is_block g to) then Some NotLive
    else if is_edge g from to then Some Linked
    else None

abbrev pub unlink_fault : FlowGraph → ℕ → ℕ → Option EditFault
unlink_fault g from to =
    if not (is_block g from && is_block g to) then Some NotLive
    else if not (is_edge g from to) then Some NotLinked
    else None

-- whether one of these continuations has a destination
abbrev pub are_taken : FlowGraph → List ℕ → Bool
are_taken g ks = list_any (λ k. not (is_empty (dest_of g k))) ks

-- whether no node follows in one of these blocks
abbrev pub is_last_in : FlowGraph → ℕ → List ℕ → Bool
is_last_in g n bs = list_any (λ b. is_empty (behind n (nodes_in g b))) bs

abbrev pub retire_fault : FlowGraph → ℕ → Option EditFault
retire_fault g n =
    if not (is_node g n) then Some NotLive
    else if are_taken g (cont_of g n) || is_last_in g n (block_of g n) then Some StillUsed
    else None

-- whether a block other than this comes before it
abbrev pub has_other_before : FlowGraph → ℕ → Bool
has_other_before g b = list_any (λ c. not (c == b)) (blocks_before g b)

abbrev pub delete_fault : FlowGraph → ℕ → Option EditFault
delete_fault g b =
    if not (is_block g b) then Some NotLive
    else if has_other_before g b || is_entered g b then Some StillUsed
    else None

abbrev pub substitute_fault : FlowGraph → ℕ → ℕ → Option EditFault
substitute_fault g old new =
    if not (is_cont g old && is_cont g new) then Some NotLive
    else if is_empty (dest_of g old) then Some NotLinked
    else if not (is_empty (dest_of g new)) || (old == new) then Some StillUsed
    else None

abbrev pub are_conts : FlowGraph → List ℕ → Bool
are_conts g ks = list_all (λ k. is_some (g.cont k)) ks

abbrev pub are_blocks : FlowGraph → List ℕ → Bool
are_blocks g bs = list_all (λ b. is_some (g.block b)) bs

-- what a node of this kind names is there
abbrev pub are_named : FlowGraph → NodeKind → Bool
are_named g kind = are_conts g (operands_of kind) && are_variables g (variables_of kind) && are_functions g (functions_of kind)

abbrev pub add_fault : FlowGraph → ℕ → NodeKind → Option EditFault
add_fault g b kind =
    if not ((is_block g b && are_blocks g (arrivals_of kind)) && are_named g kind) then Some NotLive
    else if are_taken g (operands_of kind) then Some StillUsed
    else None

abbrev pub is_function : FlowGraph → ℕ → Bool
is_function g f = is_some (g.function f)

abbrev pub deliver_fault : FlowGraph → ℕ → ℕ → Option EditFault
deliver_fault g n k =
    if not (is_node g n && is_cont g k) then Some NotLive
    else if not (is_empty (cont_of g n)) then Some Linked
    else None

abbrev pub assert_fault : FlowGraph → ℕ → Option EditFault
assert_fault g k = if is_cont g k then None else Some NotLive

abbrev pub function_fault : FlowGraph → Function → Option EditFault
function_fault g f = if are_variables g f.parameters && are_variables g f.closed then None else Some NotLive

-- where a function cannot be one that the form names
abbrev pub named_function_fault : FlowGraph → ℕ → Option EditFault
named_function_fault g f = if is_function g f then None else Some NotLive

abbrev pub entry_fault : FlowGraph → ℕ → ℕ → Option EditFault
entry_fault g f b =
    if not (is_function g f && is_block g b) then Some NotLive
    else if not (is_empty (entered_by g b)) then Some Linked
    else None

-- whether there is a node, of a kind that passes a test
abbrev pub kind_passes : (NodeKind → Bool) → Option Node → Bool
kind_passes test None = false
kind_passes test (Some nd) = test nd.kind

abbrev pub is_exit : FlowGraph → ℕ → Bool
is_exit g n = kind_passes is_exit_kind (g.node n)

abbrev pub is_entry : FlowGraph → ℕ → Bool
is_entry g n = kind_passes is_entry_kind (g.node n)

abbrev pub pair_fault : FlowGraph → ℕ → ℕ → Option EditFault
pair_fault g exit entry =
    if not (is_exit g exit && is_entry g entry) then Some NotLive
    else if not (is_empty (entry_left_at g exit)) then Some Linked
    else None
