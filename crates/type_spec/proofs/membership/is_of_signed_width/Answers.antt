use Rattle.std.proofs.Common.{arith, rules, pos, ◌-ℤ◌, ◌∙◌}
use Rattle.std.proofs.lemmas.Int.{ints, to_z-of_z}
use mir.Syntax.{w128}
use mir.Val.{SFits}
use Rattle.type_spec.proofs.Powers.{signed_range}
use Rattle.type_spec.proofs.membership.is_of_signed_width.Goals as goal

pub returns : goal.returns
returns c =
    let half = c.half_width-half.result in
    let small = c.half_width-half.ensures.small in
    let power = c.half_width-half.ensures.power in
    let fits : SFits w128 half = search rules in
    let turned : SFits w128 (pos 0 -ℤ half) = omega (arith, ints) in
    let h = simp to_z-of_z at c.is_in_range.ensures in
    h ∙ signed_range c.args.bits half c.args.v c.requires power
