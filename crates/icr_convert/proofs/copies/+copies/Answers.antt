use Rattle.icr_convert.proofs.Copying.{copied_more}
use Rattle.icr_convert.proofs.copies.+copies.Goals as goal

pub copies_of-loop-spec-preserved : goal.copies_of-loop-spec-preserved
copies_of-loop-spec-preserved t c =
    copied_more c.args.specs.now c.loop-spec.copies.items c.loop-spec.spec-index c.in_ok-copy_of.field-0 c.spec-item.result c.push.new.self.items c.loop-spec-test.true c.spec-item.is c.in_ok-copy_of.ensures c.in_ok-push.ensures.items c.loop-spec.invariant
