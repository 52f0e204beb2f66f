-- One more element is looked at.
use Rattle.std.proofs.Common.{◌<◌, length, refl, arith, eq-eqb, ne_eqb}
use Rattle.std.proofs.lemmas.List.Filters.{FiltersInPlace-more_set, FiltersInPlace-more_no}
use Rattle.icr_graph.proofs.links.keep_others.Goals.{then-number, else-number}
use Rattle.icr_graph.proofs.links.keep_others.Goals as goal

pub loop-index-preserved : goal.loop-index-preserved
loop-index-preserved g c =
    let within : c.loop-index.index < length c.loop-index.items = omega arith in
    elim c.if-number.branch [
      | then-number w ↦ rw (w.items-is, w.kept-is) (FiltersInPlace-more_set {x = c.index-items-index.result} c.loop-index.invariant within (rw (← c.number.ensures, ← c.number-in-loop-index.ensures, ne_eqb _ _ w.if-number.true) refl) c.index-items-index.is)
      | else-number w ↦ rw (w.items-is, w.kept-is) (FiltersInPlace-more_no {x = c.index-items-index.result} c.loop-index.invariant within (rw (← c.number.ensures, ← c.number-in-loop-index.ensures, eq-eqb _ _ w.if-number.false) refl) c.index-items-index.is)
    ]
