-- What the second block names is all that names it, but for the edge between the two.
use Rattle.std.proofs.Common.{◌≡◌, sym, subst}
use Rattle.icr_graph.specs.Plain.{graph_of}
use Rattle.icr_graph.specs.Whole.{IsWhole}
use Rattle.icr_graph.proofs.Joins.{join_allowed, joined_is, joined_whole}
use Rattle.icr_graph.proofs.graph.Graph.join.Goals as goal

pub invariant_of-self : goal.invariant_of-self
invariant_of-self c =
    let j = join_allowed _ c.args.first c.args.second (rw (← c.self.view_is) at c.requires.allowed) in
    rw (c.set_links.ensures, c.rename_all_before.ensures, c.move_nodes.ensures, c.as_slice.ensures, c.as_slice-2.ensures, c.in-Some.ensures.retired, c.requires.both, ← c.self.view_is)
    (subst IsWhole (sym (joined_is _ c.args.first c.args.second j c.self.invariant c.in-Some.gone (sym c.in-Some.ensures.value))) (joined_whole _ c.args.first c.args.second j c.self.invariant))

pub returns : goal.returns
returns c =
    let j = join_allowed _ c.args.first c.args.second (rw (← c.self.view_is) at c.requires.allowed) in
    rw (c.set_links.ensures, c.rename_all_before.ensures, c.move_nodes.ensures, c.as_slice.ensures, c.as_slice-2.ensures, c.in-Some.ensures.retired, c.requires.both, ← c.self.view_is)
    (joined_is _ c.args.first c.args.second j c.self.invariant c.in-Some.gone (sym c.in-Some.ensures.value))
