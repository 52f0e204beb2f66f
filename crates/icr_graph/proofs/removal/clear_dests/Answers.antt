-- One more continuation is looked at.
use Rattle.std.proofs.Common.{ℕ, Option, ap, ◌∙◌}
use Rattle.ir_ids.specs.Entries.{map_of}
use Rattle.icr_graph.specs.Lists.{changed}
use Rattle.icr_graph.specs.Edits.{not_taken_by}
use Rattle.icr_graph.proofs.Touched.{touch_step, other_than_twice}
use Rattle.icr_graph.proofs.removal.clear_dests.Goals as goal

pub loop-id-preserved : goal.loop-id-preserved
loop-id-preserved c =
    c.clear_dest.ensures
    ∙ (ap (changed (not_taken_by c.args.node) c.id-item.result) c.loop-id.invariant
    ∙ touch_step (not_taken_by c.args.node) (map_of c.args.conts.now) (λ v. ap (λ (d : Option ℕ). record v { dest = d }) (other_than_twice c.args.node v.dest)) c.args.ids.now c.loop-id.id-index c.id-item.result c.loop-id-test.true c.id-item.is)
