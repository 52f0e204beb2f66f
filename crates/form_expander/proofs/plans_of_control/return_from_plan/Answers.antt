use Rattle.form_expander.specs.Reading.{scope_of}
use Rattle.form_expander.proofs.Leaving.{leaves_one, leaves_two}
use Rattle.form_expander.proofs.plans_of_control.return_from_plan.Goals as goal

pub returns-in-len1 : goal.returns-in-len1
returns-in-len1 c = λ w. leaves_one (scope_of c.args.scope.now) c.return_plan.result w _ c.args.arguments.now c.in-len1.len_at_least c.in-len1.len_below (c.return_plan.ensures w)

pub returns-in-len2 : goal.returns-in-len2
returns-in-len2 c = λ w. leaves_two (scope_of c.args.scope.now) c.return_plan-in-len2.result w _ _ c.args.arguments.now c.in-len2.len_at_least c.in-len2.len_below (c.return_plan-in-len2.ensures w)
