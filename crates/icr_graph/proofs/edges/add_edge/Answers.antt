-- What was added first is taken back.
use Rattle.std.proofs.Common.{ap, ◌∙◌}
use Rattle.ir_ids.specs.Entries.{map_of}
use Rattle.icr_graph.specs.Lists.{changed}
use Rattle.icr_graph.specs.Edits.{but_last_after}
use Rattle.icr_graph.proofs.EdgesKept.{edge_taken_back}
use Rattle.icr_graph.proofs.edges.add_edge.Goals as goal

pub returns-in-Err-clause-err : goal.returns-in-Err-clause-err
returns-in-Err-clause-err c =
    c.drop_last_after.ensures
    ∙ (ap (changed but_last_after c.args.from) (c.in-Err.ensures.err ∙ c.in_ok-add_after.ensures.ok)
    ∙ edge_taken_back c.args.to c.args.from (map_of c.args.blocks.now))
