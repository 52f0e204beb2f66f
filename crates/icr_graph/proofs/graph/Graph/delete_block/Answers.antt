-- Without its nodes the block is free.
use Rattle.std.proofs.Common.{◌≡◌, ℕ, List, true, None, sym, ap, ◌∙◌, subst}
use Rattle.icr_graph.specs.Plain.{FlowGraph, graph_of, nodes_in}
use Rattle.icr_graph.specs.Edits.{without_nodes}
use Rattle.icr_graph.specs.Removal.{IsFree}
use Rattle.icr_graph.specs.Faults.{delete_fault, is_block}
use Rattle.icr_graph.proofs.BlockGone.{delete_allowed}
use Rattle.icr_graph.proofs.graph.Graph.delete_block.Goals as goal

pub remove_block-requires-clause-live : goal.remove_block-requires-clause-live
remove_block-requires-clause-live c =
    let stated : delete_fault (graph_of c.args.self.now) c.args.id ≡ None = cc in
    let left : graph_of c.remove_all.new.self ≡ without_nodes (nodes_in (graph_of c.args.self.now) c.args.id) (graph_of c.args.self.now) =
    c.remove_all.ensures ∙ ap (λ (ns : List ℕ). without_nodes ns (graph_of c.args.self.now)) (c.as_slice.ensures ∙ c.in_ok-nodes.ensures.ok) in
    subst (λ (h : FlowGraph). is_block h c.args.id ≡ true) (sym left) (delete_allowed (graph_of c.args.self.now) c.args.id stated).0

pub remove_block-requires-clause-free : goal.remove_block-requires-clause-free
remove_block-requires-clause-free c =
    let stated : delete_fault (graph_of c.args.self.now) c.args.id ≡ None = cc in
    let left : graph_of c.remove_all.new.self ≡ without_nodes (nodes_in (graph_of c.args.self.now) c.args.id) (graph_of c.args.self.now) =
    c.remove_all.ensures ∙ ap (λ (ns : List ℕ). without_nodes ns (graph_of c.args.self.now)) (c.as_slice.ensures ∙ c.in_ok-nodes.ensures.ok) in
    subst (λ (h : FlowGraph). IsFree h c.args.id) (sym left) (delete_allowed (graph_of c.args.self.now) c.args.id stated).1
