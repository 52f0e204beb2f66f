use Rattle.std.proofs.Common.{◌≡◌, ℕ, drop, subst, arith}
use Rattle.icr_convert.specs.Converting.{ReleasesTo}
use Rattle.icr_convert.proofs.Operands.{released_more}
use Rattle.icr_convert.proofs.converter.Converter.release_to.Goals as goal

pub loop-number-preserved : goal.loop-number-preserved
loop-number-preserved c =
    released_more c.args.place c.args.operands.now c.loop-number.number c.index-operands-number.result c.charge.result c.charge.ensures (omega arith) (omega arith) c.index-operands-number.is c.loop-number.invariant c.in_ok-exit.ensures

pub returns : goal.returns
returns c =
    let none : c.loop-number.number ≡ 0 = omega arith in
    subst (λ (n : ℕ). ReleasesTo c.args.place (drop n c.args.operands.now) c.args.self.now.built c.loop-number.self.built) none c.loop-number.invariant
