-- A node taken out of a graph link by link. This project's own.
use Rattle.std.specs.Prelude.{◌≡◌, false, ℕ, [], None}
use Rattle.ir_ids.specs.Entries.{with_entry}
use Rattle.icr_graph.specs.declared.nodes.Node.{Node}
use Rattle.icr_graph.specs.Lists.{listed, touched, changed}
use Rattle.icr_graph.specs.Kinds.{operands_of, arrivals_of, partners_of}
use Rattle.icr_graph.specs.Plain.{FlowGraph, nodes_in, arriving_at, entered_by}
use Rattle.icr_graph.specs.Faults.{has_other_before}
use Rattle.icr_graph.specs.Edits.{alone, not_used_by, not_taken_by, not_holding, no_arrival_of}

-- the graph once the node n, which is nd, and the links that it names are taken out
abbrev pub taken_out : ℕ → Node → FlowGraph → FlowGraph
taken_out n nd g =
    record g {
      node = touched (partners_of nd.kind) (alone n) (with_entry g.node n None);
      cont = touched (listed nd.cont) (not_used_by n) (touched (operands_of nd.kind) (not_taken_by n) g.cont);
      block = changed (not_holding n) nd.block (touched (arrivals_of nd.kind) (no_arrival_of n) g.block);
    }

-- the block has no node, nothing but itself comes before it, and nothing enters it
pub record IsFree (g : FlowGraph) (b : ℕ) : Type 0 where
  pub nodes : nodes_in g b ≡ []
  pub before : has_other_before g b ≡ false
  pub arriving : arriving_at g b ≡ []
  pub entered : entered_by g b ≡ []
