-- What was added is taken back, or hangs together with the rest.
use Rattle.std.proofs.Common.{◌≡◌, None, refl, sym}
use Rattle.icr_graph.specs.Plain.{graph_of}
use Rattle.icr_graph.specs.Faults.{add_fault}
use Rattle.icr_graph.proofs.NodeBuilt.{node_built, added_and_gone}
use Rattle.icr_graph.proofs.Arrivals.{is_new}
use Rattle.icr_graph.proofs.graph.Graph.add_node.Goals as goal

pub invariant_of-self-in-Err : goal.invariant_of-self-in-Err
invariant_of-self-in-Err c =
    rw (c.in-Err.ensures.err, c.retire.ensures.retired, c.in-Ok.ensures.added, added_and_gone _ _ _ c.in-Ok.ensures.vacant) c.self.invariant

pub returns-in-Err-clause-err : goal.returns-in-Err-clause-err
returns-in-Err-clause-err c =
    rw (← c.self.view_is, c.in-Err.ensures.err, c.retire.ensures.retired, c.in-Ok.ensures.added, added_and_gone _ _ _ c.in-Ok.ensures.vacant) refl

pub invariant_of-self-2 : goal.invariant_of-self-2
invariant_of-self-2 c =
    let stated : add_fault (graph_of c.args.self.now) c.args.block c.args.kind ≡ None = sym c.in_default.ensures in
    rw (c.in_default-hold_node.ensures.ok, c.in-Ok.ensures.added, c.set_dests.ensures, c.as_slice-4.ensures, c.in_ok-operands.ensures, c.as_slice-3.ensures, c.in_ok-arrivals.ensures)
    (node_built _ c.in-Ok.id _ c.in-Ok.ensures.vacant (rw (← c.self.view_is) at stated) refl c.requires c.self.invariant)

pub hold_node-requires : goal.hold_node-requires
hold_node-requires c = is_new _ c.in-Ok.id c.in-Ok.ensures.vacant c.self.invariant
