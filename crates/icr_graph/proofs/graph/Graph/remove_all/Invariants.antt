use Rattle.std.proofs.Common.{◌≡◌, take}
use Rattle.icr_graph.specs.Plain.{graph_of}
use Rattle.icr_graph.specs.Edits.{without_nodes}
use Rattle.icr_graph.proofs.graph.Graph.remove_all.Given as goal

abbrev pub invariant-loop-id : goal.invariant-loop-id
invariant-loop-id l = graph_of l.self ≡ without_nodes (take l.id-index l.ids) (graph_of l.fn.self)
