-- The exit is the one that was there with its entry.
use Rattle.std.proofs.Common.{◌≡◌, sym, ap}
use Rattle.icr_graph.specs.declared.nodes.Node.{Node}
use Rattle.icr_graph.specs.declared.nodes.NodeKind.{NodeKind}
use Rattle.icr_graph.specs.Building.{leaving_entry}
use Rattle.icr_graph.proofs.Written.{set_changed}
use Rattle.icr_graph.proofs.attaching.set_entry.Goals as goal

pub returns-in-Some : goal.returns-in-Some
returns-in-Some c =
    let before : Node = c.in-Some.node.now in
    set_changed (leaving_entry c.args.entry) c.args.nodes.now c.args.exit before _ (sym c.in-Some.ensures.value) (ap (λ (k : NodeKind). record before { kind = k }) c.name_entry.ensures)
