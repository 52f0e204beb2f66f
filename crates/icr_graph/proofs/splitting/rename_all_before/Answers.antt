-- One more block is looked at.
use Rattle.std.proofs.Common.{◌≡◌, ap, ◌∙◌}
use Rattle.ir_ids.specs.Entries.{map_of}
use Rattle.icr_graph.specs.Lists.{changed}
use Rattle.icr_graph.specs.Edits.{behind_block}
use Rattle.icr_graph.proofs.Touched.{touch_step}
use Rattle.icr_graph.proofs.Regrouped.{behind_twice}
use Rattle.icr_graph.proofs.splitting.rename_all_before.Goals as goal

pub loop-id-preserved : goal.loop-id-preserved
loop-id-preserved c =
    c.rename_before.ensures
    ∙ (ap (changed (behind_block c.args.old c.args.new) c.id-item.result) c.loop-id.invariant
    ∙ touch_step (behind_block c.args.old c.args.new) (map_of c.args.blocks.now) (behind_twice c.args.old c.args.new) c.args.ids.now c.loop-id.id-index c.id-item.result c.loop-id-test.true c.id-item.is)
