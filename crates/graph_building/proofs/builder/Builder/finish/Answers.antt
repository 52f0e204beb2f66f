-- Each block belongs to the function that was noted for it.
use Rattle.icr_graph.specs.Plain.{graph_of}
use Rattle.graph_building.proofs.Ownership.{one_function}
use Rattle.graph_building.proofs.builder.Builder.finish.Goals as goal

pub returns-clause-functions : goal.returns-clause-functions
returns-clause-functions c = one_function c.self.inside.owners (graph_of c.self.inside.graph) c.self.invariant.owned
