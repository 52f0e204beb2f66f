-- One more block is looked at.
use Rattle.std.proofs.Common.{ℕ, List, ap, ◌∙◌}
use Rattle.ir_ids.specs.Entries.{map_of}
use Rattle.icr_graph.specs.Lists.{changed}
use Rattle.icr_graph.specs.Edits.{no_arrival_of}
use Rattle.icr_graph.proofs.Touched.{touch_step, without_twice}
use Rattle.icr_graph.proofs.removal.remove_arrivals.Goals as goal

pub loop-id-preserved : goal.loop-id-preserved
loop-id-preserved c =
    c.remove_arrival.ensures
    ∙ (ap (changed (no_arrival_of c.args.node) c.id-item.result) c.loop-id.invariant
    ∙ touch_step (no_arrival_of c.args.node) (map_of c.args.blocks.now) (λ v. ap (λ (xs : List ℕ). record v { arriving = xs }) (without_twice c.args.node v.arriving)) c.args.ids.now c.loop-id.id-index c.id-item.result c.loop-id-test.true c.id-item.is)
