use Rattle.std.proofs.Common.{◌-◌, ◌^◌, ◌∙◌, ap, arith}
use Rattle.std.proofs.lemmas.Int.{ints, to_z_pos}
use mir.Syntax.{w128}
use mir.Val.{to_z}
use Rattle.type_spec.proofs.Powers.{small_power, whole}
use Rattle.type_spec.proofs.membership.half_width.Goals as goal

pub overflow_cast-result-2 : goal.overflow_cast-result-2
overflow_cast-result-2 c =
    let p = small_power c.args.bits c.requires in
    let e = whole (2 ^ (c.args.bits - 1)) p in
    omega (arith, ints)

pub returns-clause-power : goal.returns-clause-power
returns-clause-power c =
    let p = small_power c.args.bits c.requires in
    ap (to_z w128) (whole (2 ^ (c.args.bits - 1)) p) ∙ to_z_pos w128 (2 ^ (c.args.bits - 1)) p

pub returns-clause-small : goal.returns-clause-small
returns-clause-small c = small_power c.args.bits c.requires
