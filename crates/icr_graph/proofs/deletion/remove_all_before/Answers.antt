-- One more block is looked at.
use Rattle.std.proofs.Common.{ℕ, List, ap, ◌∙◌}
use Rattle.ir_ids.specs.Entries.{map_of}
use Rattle.icr_graph.specs.Lists.{changed}
use Rattle.icr_graph.specs.Edits.{not_preceded_by}
use Rattle.icr_graph.proofs.Touched.{touch_step, without_twice}
use Rattle.icr_graph.proofs.deletion.remove_all_before.Goals as goal

pub loop-id-preserved : goal.loop-id-preserved
loop-id-preserved c =
    c.remove_before.ensures
    ∙ (ap (changed (not_preceded_by c.args.from) c.id-item.result) c.loop-id.invariant
    ∙ touch_step (not_preceded_by c.args.from) (map_of c.args.blocks.now) (λ v. ap (λ (xs : List ℕ). record v { before = xs }) (without_twice c.args.from v.before)) c.args.ids.now c.loop-id.id-index c.id-item.result c.loop-id-test.true c.id-item.is)
