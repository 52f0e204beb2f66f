use Rattle.std.proofs.Common.{◌≡◌, arith}
use Rattle.icr_convert.proofs.Entering.{none_unbound, next_unbound}
use Rattle.icr_convert.proofs.converter.Converter.unbind_these.Goals as goal

pub loop-number-init : goal.loop-number-init
loop-number-init c = none_unbound c.args.place c.args.bound.now _ c.args.self.now.built (omega arith)

pub loop-number-preserved : goal.loop-number-preserved
loop-number-preserved c =
    next_unbound c.args.place c.args.bound.now c.loop-number.number _ c.index-bound-number.result _ _ _ (omega arith) (omega arith) c.loop-number.invariant c.in_ok-unbind.ensures

pub returns : goal.returns
returns c =
    let none : c.loop-number.number ≡ 0 = omega arith in
    rw none at c.loop-number.invariant
