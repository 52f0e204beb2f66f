-- One more continuation has the destination.
use Rattle.std.proofs.Common.{Some, refl, ap, ◌∙◌}
use Rattle.ir_ids.specs.Entries.{map_of}
use Rattle.icr_graph.specs.Lists.{changed}
use Rattle.icr_graph.specs.Edits.{taken_by}
use Rattle.icr_graph.proofs.Touched.{touch_step}
use Rattle.icr_graph.proofs.adding.set_dests.Goals as goal

pub loop-id-preserved : goal.loop-id-preserved
loop-id-preserved c =
    c.set_dest.ensures
    ∙ (ap (changed (taken_by (Some c.args.node)) c.id-item.result) c.loop-id.invariant
    ∙ touch_step (taken_by (Some c.args.node)) (map_of c.args.conts.now) (λ v. refl) c.args.ids.now c.loop-id.id-index c.id-item.result c.loop-id-test.true c.id-item.is)
