use Rattle.rv_asm.specs.Places.{site_marks}
use Rattle.rv_asm.proofs.Marks.{Stands, Marked}
use Rattle.rv_asm.proofs.placing.mark_sites.Given as goal

abbrev pub invariant-loop-item : goal.invariant-loop-item
invariant-loop-item l = Stands l.items l.at l.item-index × Marked site_marks l.items l.sites.items l.at l.item-index
