-- With an assertion the graph still hangs together.
use Rattle.icr_graph.proofs.Attached.{asserted_whole}
use Rattle.icr_graph.proofs.graph.Graph.assert_on.Goals as goal

pub invariant_of-self-2 : goal.invariant_of-self-2
invariant_of-self-2 c = rw c.in_ok-add_assertion.ensures.ok (asserted_whole _ c.args.cont c.args.assertion c.self.invariant)
