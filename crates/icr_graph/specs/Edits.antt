-- What each edit makes of a graph. This project's own.
use Rattle.std.specs.Prelude.{ℕ, List, [], ◌∷◌, ◌++◌, Option, Some, None}
use Rattle.ir_ids.specs.Entries.{with_entry}
use Rattle.icr_graph.specs.declared.nodes.Node.{Node}
use Rattle.icr_graph.specs.declared.parts.Cont.{Cont}
use Rattle.icr_graph.specs.declared.parts.Block.{Block}
use Rattle.icr_graph.specs.Lists.{but_last, behind, up_to, without, renumbered, other_than, changed, touched, each}
use Rattle.icr_graph.specs.Kinds.{taking, apart_from}
use Rattle.icr_graph.specs.Plain.{FlowGraph, nodes_in, blocks_after}

-- ---- edges

abbrev pub followed_by : ℕ → Block → Block
followed_by c b = record b { after = b.after ++ c ∷ [] }

abbrev pub preceded_by : ℕ → Block → Block
preceded_by c b = record b { before = b.before ++ c ∷ [] }

abbrev pub not_followed_by : ℕ → Block → Block
not_followed_by c b = record b { after = without c b.after }

abbrev pub not_preceded_by : ℕ → Block → Block
not_preceded_by c b = record b { before = without c b.before }

abbrev pub but_last_after : Block → Block
but_last_after b = record b { after = but_last b.after }

-- with an edge, the last on both sides
abbrev pub linked : ℕ → ℕ → FlowGraph → FlowGraph
linked from to g = record g { block = changed (preceded_by from) to (changed (followed_by to) from g.block) }

-- without the edge
abbrev pub unlinked : ℕ → ℕ → FlowGraph → FlowGraph
unlinked from to g = record g { block = changed (not_preceded_by from) to (changed (not_followed_by to) from g.block) }

-- ---- continuations

abbrev pub taken_by : Option ℕ → Cont → Cont
taken_by n k = record k { dest = n }

abbrev pub taking_instead : ℕ → ℕ → Node → Node
taking_instead old new nd = record nd { kind = taking old new nd.kind }

-- the node takes the new continuation in the place of the old
abbrev pub substituted : ℕ → ℕ → ℕ → FlowGraph → FlowGraph
substituted node old new g =
    record g {
      node = changed (taking_instead old new) node g.node;
      cont = changed (taken_by (Some node)) new (changed (taken_by None) old g.cont);
    }

-- the same for the destination of the old one
abbrev pub substituted_at : List ℕ → ℕ → ℕ → FlowGraph → FlowGraph
substituted_at [] old new g = g
substituted_at (node ∷ nodes) old new g = substituted node old new g

-- ---- without a node

abbrev pub alone : ℕ → Node → Node
alone n nd = record nd { kind = apart_from n nd.kind }

abbrev pub not_taken_by : ℕ → Cont → Cont
not_taken_by n k = record k { dest = other_than n k.dest }

abbrev pub not_used_by : ℕ → Cont → Cont
not_used_by n k = record k { uses = without n k.uses }

abbrev pub not_holding : ℕ → Block → Block
not_holding n b = record b { nodes = without n b.nodes }

abbrev pub no_arrival_of : ℕ → Block → Block
no_arrival_of n b = record b { arriving = without n b.arriving }

-- the node and every link to it are gone
abbrev pub without_node : ℕ → FlowGraph → FlowGraph
without_node n g =
    record g {
      node = with_entry (each (alone n) g.node) n None;
      cont = each (not_used_by n) (each (not_taken_by n) g.cont);
      block = each (not_holding n) (each (no_arrival_of n) g.block);
    }

abbrev pub without_nodes : List ℕ → FlowGraph → FlowGraph
without_nodes [] g = g
without_nodes (n ∷ ns) g = without_nodes ns (without_node n g)

-- ---- without a block

abbrev pub not_beside : ℕ → Block → Block
not_beside c b = record b { before = without c b.before; after = without c b.after }

abbrev pub without_block : ℕ → FlowGraph → FlowGraph
without_block b g = record g { block = with_entry (each (not_beside b) g.block) b None }

-- the block, its edges, its nodes and every link to them are gone
abbrev pub deleted : ℕ → FlowGraph → FlowGraph
deleted b g = without_block b (without_nodes (nodes_in g b) g)

-- ---- one block into two, two into one

-- a block that comes behind the new block in the place of the old
abbrev pub behind_block : ℕ → ℕ → Block → Block
behind_block old new b = record b { before = renumbered old new b.before }

abbrev pub in_block : ℕ → Node → Node
in_block b nd = record nd { block = b }

-- these nodes lie in a block
abbrev pub moved : List ℕ → ℕ → (ℕ → Option Node) → ℕ → Option Node
moved ns to nodes = touched ns (in_block to) nodes

abbrev pub ending_at : ℕ → ℕ → Block → Block
ending_at n new b = record b { nodes = up_to n b.nodes; after = new ∷ [] }

-- the nodes behind node n of block b lie in a new block, which is its only successor and has the successors that it had
abbrev pub split : ℕ → ℕ → ℕ → FlowGraph → FlowGraph
split n b new g =
    let rest = behind n (nodes_in g b) in
    record g {
      node = moved rest new g.node;
      block = with_entry (changed (ending_at n new) b (each (behind_block b new) g.block)) new (Some (record { nodes = rest; before = b ∷ []; after = blocks_after g b; arriving = []; entry_of = None }));
    }

abbrev pub going_on : List ℕ → List ℕ → Block → Block
going_on nodes after b = record b { nodes = b.nodes ++ nodes; after = after }

-- the first block goes on with the nodes and the successors of the second, which is gone
abbrev pub joined : ℕ → ℕ → FlowGraph → FlowGraph
joined first second g =
    record g {
      node = moved (nodes_in g second) first g.node;
      block = with_entry (changed (going_on (nodes_in g second) (blocks_after g second)) first (each (behind_block second first) g.block)) second None;
    }
