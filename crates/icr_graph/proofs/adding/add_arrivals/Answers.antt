-- One more block is arrived at, or those that were are no more.
use Rattle.std.proofs.Common.{take, ap, ◌∙◌}
use Rattle.ir_ids.specs.Entries.{map_of}
use Rattle.icr_graph.specs.Lists.{changed, touched}
use Rattle.icr_graph.specs.Edits.{no_arrival_of}
use Rattle.icr_graph.specs.Building.{arriving_from}
use Rattle.icr_graph.proofs.Touched.{touch_step}
use Rattle.icr_graph.proofs.Arrivals.{arriving_twice, arrivals_taken_back, has_take}
use Rattle.icr_graph.proofs.adding.add_arrivals.Goals as goal

pub loop-id-preserved : goal.loop-id-preserved
loop-id-preserved c =
    c.in_default.ensures.ok
    ∙ (ap (changed (arriving_from c.args.node) c.id-item.result) c.loop-id.invariant
    ∙ touch_step (arriving_from c.args.node) (map_of c.args.blocks.now) (arriving_twice c.args.node) c.args.ids.now c.loop-id.id-index c.id-item.result c.loop-id-test.true c.id-item.is)

pub returns-in-Err-clause-err : goal.returns-in-Err-clause-err
returns-in-Err-clause-err c =
    c.remove_arrivals.ensures
    ∙ (ap (touched c.args.ids.now (no_arrival_of c.args.node)) (c.in-Err.ensures.err ∙ c.loop-id.invariant)
    ∙ arrivals_taken_back c.args.node c.args.ids.now (take c.loop-id.id-index c.args.ids.now) (map_of c.args.blocks.now) (λ b. has_take b c.loop-id.id-index c.args.ids.now) c.requires)
