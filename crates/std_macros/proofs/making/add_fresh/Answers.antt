use Rattle.std.proofs.Common.{refl}
use Rattle.std_macros.proofs.Added.{fresh_first, fresh_added, fresh_ended}
use Rattle.std_macros.proofs.making.add_fresh.Goals as goal

pub loop-offset-init : goal.loop-offset-init
loop-offset-init c = fresh_first c.args.first c.args.count c.args.elements.now.items

pub loop-offset-preserved : goal.loop-offset-preserved
loop-offset-preserved c = fresh_added c.args.first c.loop-offset.offset c.args.count _ _ _ _ c.loop-offset-test.true refl c.in_ok-push.ensures.items c.loop-offset.invariant

pub returns : goal.returns
returns c = fresh_ended c.args.first c.loop-offset.offset c.args.count _ _ c.loop-offset-test.false c.loop-offset.invariant
