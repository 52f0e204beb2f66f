use Rattle.std.proofs.Common.{Some, sym}
use Rattle.image.specs.Rows.{site_row}
use Rattle.image.proofs.Loop.{goes_on, ends, is_done}
use Rattle.image.proofs.tables.site_rows.Goals as goal

pub returns-in_default : goal.returns-in_default
returns-in_default c =
    rw c.wrong.ensures (ends (site_row c.args.texts) (λ r. Some r.pc) c.args.end c.loop.sites.items c.args.count c.loop.counter c.loop.before c.loop.rest.now _ c.loop-test.true (sym c.in_default.ensures) c.loop.invariant)

pub loop-preserved : goal.loop-preserved
loop-preserved c =
    rw c.in_ok-push.ensures.items (goes_on (site_row c.args.texts) (λ r. Some r.pc) c.args.end c.loop.sites.items c.args.count c.loop.counter c.loop.before c.loop.rest.now c.in-Some.row c.in-Some.after.now _ c.loop-test.true (sym c.in-Some.ensures) c.loop.invariant)

pub returns : goal.returns
returns c =
    is_done (site_row c.args.texts) (λ r. Some r.pc) c.args.end c.loop.sites.items c.args.count c.loop.counter c.loop.before c.loop.rest.now _ c.loop-test.false c.loop.invariant
