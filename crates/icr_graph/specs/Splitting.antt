-- One block split into two, two blocks joined into one: where this is refused, and what a split makes. This project's own.
use Rattle.std.specs.Prelude.{ℕ, Bool, true, false, not, ◌&&◌, ◌||◌, ◌==◌, if◌then◌else◌, List, [], ◌∷◌, Option, Some, None}
use Rattle.std.specs.List.{list_any}
use Rattle.icr_graph.specs.declared.nodes.Node.{Node}
use Rattle.icr_graph.specs.declared.faults.EditFault.{EditFault}
use Rattle.icr_graph.specs.declared.faults.EditFault.TheVariants.{NotLive, NotLinked, NotLast, NotAlone}
use Rattle.icr_graph.specs.Lists.{last_alone}
use Rattle.icr_graph.specs.Kinds.{is_if}
use Rattle.icr_graph.specs.Plain.{FlowGraph, nodes_in, blocks_before, blocks_after, block_of}
use Rattle.icr_graph.specs.Edits.{split}
use Rattle.icr_graph.specs.Faults.{is_node, is_block, is_edge, is_entered, is_last_in}

abbrev pub split_fault : FlowGraph → ℕ → Option EditFault
split_fault g n =
    if not (is_node g n) then Some NotLive
    else if is_last_in g n (block_of g n) then Some NotLast
    else None

-- the block of node n, which is the one in this list, is split behind n
abbrev pub split_behind : ℕ → List ℕ → ℕ → FlowGraph → FlowGraph
split_behind n [] new g = g
split_behind n (b ∷ bs) new g = split n b new g

-- whether one of these blocks is not this one
abbrev pub have_other : ℕ → List ℕ → Bool
have_other b blocks = list_any (λ c. not (c == b)) blocks

abbrev pub is_if_node : Option Node → Bool
is_if_node None = false
is_if_node (Some node) = is_if node.kind

-- whether the last node of a block is an If
abbrev pub ends_with_if : FlowGraph → ℕ → Bool
ends_with_if g b = list_any (λ n. is_if_node (g.node n)) (last_alone (nodes_in g b))

-- whether more than the edge between the two leads out of the first or into the second, or both are one
abbrev pub are_not_alone : FlowGraph → ℕ → ℕ → Bool
are_not_alone g first second =
    (have_other second (blocks_after g first) || ends_with_if g first)
    || ((have_other first (blocks_before g second) || is_entered g second) || (first == second))

abbrev pub join_fault : FlowGraph → ℕ → ℕ → Option EditFault
join_fault g first second =
    if not (is_block g first && is_block g second) then Some NotLive
    else if not (is_edge g first second) then Some NotLinked
    else if are_not_alone g first second then Some NotAlone
    else None
