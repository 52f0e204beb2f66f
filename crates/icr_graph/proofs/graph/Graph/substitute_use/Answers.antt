-- The node takes the one instead of the other.
use Rattle.std.proofs.Common.{◌≡◌, None}
use Rattle.icr_graph.specs.Plain.{graph_of}
use Rattle.icr_graph.specs.Faults.{substitute_fault}
use Rattle.icr_graph.proofs.Substituted.{substitute_kept}
use Rattle.icr_graph.proofs.graph.Graph.substitute_use.Goals as goal

pub invariant_of-self : goal.invariant_of-self
invariant_of-self c =
    let stated : substitute_fault (graph_of c.args.self.now) c.args.old c.args.new ≡ None = cc in
    rw (c.set_dest-2.ensures, c.set_dest.ensures, c.take_instead.ensures)
    (substitute_kept _ c.dest-dest.result c.args.old c.args.new (rw (← c.self.view_is) at stated) (rw (← c.self.view_is) at c.dest-dest.ensures) c.self.invariant)
