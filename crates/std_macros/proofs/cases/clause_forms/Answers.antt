use Rattle.std_macros.specs.Cases.{clause_form}
use Rattle.std_macros.proofs.Defaults.{form_added}
use Rattle.std_macros.proofs.cases.clause_forms.Goals as goal

pub loop-clause-preserved : goal.loop-clause-preserved
loop-clause-preserved c = form_added (clause_form c.args.by) c.args.clauses.now c.loop-clause.clause-index c.clause-item.result _ _ c.in_ok-clause_form.field-0 _ c.loop-clause-test.true c.clause-item.is c.in_ok-clause_form.ensures c.in_ok-push.ensures.items c.loop-clause.invariant
