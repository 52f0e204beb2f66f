use Rattle.std.proofs.Common.{rules, sym, ◌∙◌, ◌≡◌, inl, inr, true}
use Rattle.std.proofs.lemmas.Int.{to_z-of_z}
use mir.Val.{SFits}
use mir.Syntax.{w128}
use Rattle.type_lattice.proofs.Comparing.{escapes, goes_on_by, out_by, in_by}
use Rattle.type_lattice.proofs.ranges.Ranges.is_subset.Goals as goal
use Rattle.type_lattice.proofs.ranges.Ranges.is_subset.Goals.{else-x-2-via-then-x-2+else-not-y-2, else-x-2-via-else-x-2}

pub returns-then-not-y-2-clause-fails : goal.returns-then-not-y-2-clause-fails
returns-then-not-y-2-clause-fails c =
    let w = c.loop-border in
    let fits : SFits w128 c.in-Some.border = search rules in
    let e1 = simp to_z-of_z at c.pass-x.ensures.inside in
    let e3 = simp to_z-of_z at c.pass-y.ensures.inside in
    escapes _ _ _ _ _ _ _ _ c.in-Some.border w.invariant (sym c.next_border.ensures ∙ c.in-Some.is) (out_by _ _ _ _ e1 e3 c.if-x-2.true c.if-not-y-2.true)

pub loop-border-preserved : goal.loop-border-preserved
loop-border-preserved c =
    let w = c.loop-border in
    let fits : SFits w128 c.in-Some.border = search rules in
    let e1 = simp to_z-of_z at c.pass-x.ensures.inside in
    let e2 = simp to_z-of_z at c.pass-x.ensures.left in
    let e3 = simp to_z-of_z at c.pass-y.ensures.inside in
    let e4 = simp to_z-of_z at c.pass-y.ensures.left in
    let h : c.pass-x.result.inside ≡ true → c.pass-y.result.inside ≡ true =
    elim c.else-x-2.branch [
      | else-x-2-via-then-x-2+else-not-y-2 w ↦ in_by _ _ (inr w.if-not-y-2.false)
      | else-x-2-via-else-x-2 w ↦ in_by _ _ (inl w.if-x-2.false)
    ]
    in
    goes_on_by _ _ _ _ _ _ _ _ c.in-Some.border _ _ _ _ w.invariant (sym c.next_border.ensures ∙ c.in-Some.is) e1 e2 e3 e4 h
