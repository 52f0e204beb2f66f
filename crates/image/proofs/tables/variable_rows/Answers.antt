use Rattle.std.proofs.Common.{None, sym}
use Rattle.image.specs.Rows.{variable_row}
use Rattle.image.proofs.Loop.{goes_on, ends, is_done}
use Rattle.image.proofs.tables.variable_rows.Goals as goal

pub returns-in_default : goal.returns-in_default
returns-in_default c =
    rw c.wrong.ensures (ends (λ _ rest. variable_row c.args.texts rest) (λ _. None) c.args.end c.loop.variables.items c.args.count c.loop.counter None c.loop.rest.now _ c.loop-test.true (sym c.in_default.ensures) c.loop.invariant)

pub loop-preserved : goal.loop-preserved
loop-preserved c =
    rw c.in_ok-push.ensures.items (goes_on (λ _ rest. variable_row c.args.texts rest) (λ _. None) c.args.end c.loop.variables.items c.args.count c.loop.counter None c.loop.rest.now c.in-Some.row c.in-Some.after.now _ c.loop-test.true (sym c.in-Some.ensures) c.loop.invariant)

pub returns : goal.returns
returns c =
    is_done (λ _ rest. variable_row c.args.texts rest) (λ _. None) c.args.end c.loop.variables.items c.args.count c.loop.counter None c.loop.rest.now _ c.loop-test.false c.loop.invariant
