use Rattle.declarations.proofs.Copying.{copied_more}
use Rattle.declarations.proofs.copies.+copies.Goals as goal

pub copy_types-loop-spec-preserved : goal.copy_types-loop-spec-preserved
copy_types-loop-spec-preserved t c =
    copied_more c.args.specs.now c.loop-spec.copies.items c.loop-spec.spec-index c.in_ok-copy_type.field-0 c.spec-item.result c.push.new.self.items c.loop-spec-test.true c.spec-item.is c.in_ok-copy_type.ensures c.in_ok-push.ensures.items c.loop-spec.invariant
