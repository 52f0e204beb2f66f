-- One more element is renamed.
use Rattle.std.proofs.Common.{◌==◌, if◌then◌else◌, arith}
use Rattle.std.proofs.lemmas.List.Edits.{map_over_more}
use Rattle.icr_graph.proofs.links.Links.rename.Goals as goal

pub loop-item-preserved : goal.loop-item-preserved
loop-item-preserved g c =
    rw (c.renamed.ensures, ← c.item-item.is)
    (map_over_more (λ item. if g.I.Id.number_of item == g.I.Id.number_of c.args.old then c.args.new else item) c.as_mut_slice-item-items.result.now c.loop-item.item-items c.loop-item.item-index c.item-item.result (omega arith) c.loop-item.invariant c.item-item.is)
