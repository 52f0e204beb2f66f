use Rattle.std.proofs.Common.{◌∙◌}
use Rattle.std_macros.proofs.FreshOnes.{making_more, making_full, making_ends, same_fault}
use Rattle.std_macros.proofs.expand.fresh_symbols.Goals as goal

pub returns-in-Err-clause-too_many : goal.returns-in-Err-clause-too_many
returns-in-Err-clause-too_many c = λ e.
    making_full c.args.count c.args.symbols.now _ _ _ c.loop-number.invariant c.loop-number-test.true (c.fresh.ensures.too_many (c.in-Err.is ∙ same_fault _ _ e))

pub loop-number-preserved : goal.loop-number-preserved
loop-number-preserved c =
    making_more c.args.count c.args.symbols.now _ _ _ c.loop-number.invariant c.in-Ok.id _ _ c.loop-number-test.true c.in-Ok.ensures.ok c.in_ok-push-in-Ok.ensures.items

pub returns-clause-ok : goal.returns-clause-ok
returns-clause-ok c = making_ends c.args.count c.args.symbols.now _ _ _ c.loop-number.invariant c.loop-number-test.false
