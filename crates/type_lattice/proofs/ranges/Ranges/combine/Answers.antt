use Rattle.std.proofs.Common.{rules, sym, ◌∙◌}
use Rattle.std.proofs.lemmas.Int.{to_z-of_z}
use mir.Val.{SFits}
use mir.Syntax.{w128}
use Rattle.type_lattice.proofs.Merging.{made, stays_by, turns_by, same_side, not_same_side}
use Rattle.type_lattice.proofs.ranges.Ranges.combine.Goals as goal

pub loop-border-preserved-then-after-inside : goal.loop-border-preserved-then-after-inside
loop-border-preserved-then-after-inside c =
    let w = c.loop-border in
    let fits : SFits w128 c.in-Some.border = search rules in
    let e1 = simp to_z-of_z at c.pass-x.ensures.inside in
    let e2 = simp to_z-of_z at c.pass-x.ensures.left in
    let e3 = simp to_z-of_z at c.pass-y.ensures.inside in
    let e4 = simp to_z-of_z at c.pass-y.ensures.left in
    let k = not_same_side c.of-after.result w.inside c.if-after-inside.true in
    let o = simp to_z-of_z at c.in_ok-push.ensures.items in
    turns_by _ _ _ _ _ _ _ _ _ _ _ _ c.in-Some.border _ _ _ _ _ _ w.invariant (sym c.next_border.ensures ∙ c.in-Some.is) e1 e2 e3 e4 c.of-after.ensures k o

pub loop-border-preserved : goal.loop-border-preserved
loop-border-preserved c =
    let w = c.loop-border in
    let fits : SFits w128 c.in-Some.border = search rules in
    let e1 = simp to_z-of_z at c.pass-x.ensures.inside in
    let e2 = simp to_z-of_z at c.pass-x.ensures.left in
    let e3 = simp to_z-of_z at c.pass-y.ensures.inside in
    let e4 = simp to_z-of_z at c.pass-y.ensures.left in
    let k = same_side c.of-after.result w.inside c.if-after-inside.false in
    stays_by _ _ _ _ _ _ _ _ _ _ _ _ c.in-Some.border _ _ _ _ _ w.invariant (sym c.next_border.ensures ∙ c.in-Some.is) e1 e2 e3 e4 c.of-after.ensures k

pub returns-clause-set : goal.returns-clause-set
returns-clause-set c = (made _ _ _ _ _ _ _ _ _ _ _ _ c.loop-border.invariant (sym c.next_border.ensures ∙ c.in_default.is)).set
