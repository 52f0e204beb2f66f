use Rattle.rv_asm.specs.Places.{label_marks}
use Rattle.rv_asm.proofs.Marks.{Stands, Marked, Single}
use Rattle.rv_asm.proofs.placing.place_labels.Given as goal

abbrev pub invariant-loop-item : goal.invariant-loop-item
invariant-loop-item l =
    Stands l.items l.at l.item-index × Marked label_marks l.items l.labels l.at l.item-index × Single l.items l.labels l.at l.item-index
