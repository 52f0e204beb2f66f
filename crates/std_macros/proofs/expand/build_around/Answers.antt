use Rattle.std_macros.proofs.Outcomes.{around_more, around_all, grows_on}
use Rattle.std_macros.proofs.expand.build_around.Goals as goal

pub loop-template-preserved : goal.loop-template-preserved
loop-template-preserved c = record {
  so_far = around_more _ c.args.around.now c.loop-template.template-index c.template-item.result _ _ _ _ _ c.loop-template-test.true c.template-item.is c.in_ok-form.ensures.ok c.loop-template.invariant.so_far;
  grown = grows_on _ _ _ c.loop-template.invariant.grown c.in_ok-form.ensures.grown;
}

pub returns-clause-ok : goal.returns-clause-ok
returns-clause-ok c = around_all _ c.args.around.now c.loop-template.template-index _ _ _ c.loop-template-test.false c.loop-template.invariant.so_far
