-- The arrivals that came first are taken back.
use Rattle.std.proofs.Common.{ap, ◌∙◌}
use Rattle.ir_ids.specs.Entries.{map_of}
use Rattle.icr_graph.specs.Lists.{touched}
use Rattle.icr_graph.specs.Edits.{no_arrival_of}
use Rattle.icr_graph.proofs.Arrivals.{arrivals_taken_back}
use Rattle.icr_graph.proofs.adding.hold_node.Goals as goal

pub returns-in-Err-clause-err : goal.returns-in-Err-clause-err
returns-in-Err-clause-err c =
    c.remove_arrivals.ensures
    ∙ (ap (touched c.args.arrivals.now (no_arrival_of c.args.node)) (c.in-Err.ensures.err ∙ c.in_ok-add_arrivals.ensures.ok)
    ∙ arrivals_taken_back c.args.node c.args.arrivals.now c.args.arrivals.now (map_of c.args.blocks.now) (λ b is. is) c.requires)
