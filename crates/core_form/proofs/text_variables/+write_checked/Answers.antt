use Rattle.std.proofs.Common.{arith}
use Rattle.std.proofs.lemmas.Grind.{common_steps}
use Rattle.core_form.specs.Text.{variable_text}
use Rattle.core_form.proofs.TextTypes.{check_outside}
use Rattle.core_form.proofs.text_variables.+write_checked.Goals as goal

pub returns-in_ok-write_checked-in-Some : goal.returns-in_ok-write_checked-in-Some
returns-in_ok-write_checked-in-Some t c =
    let e = check_outside c.args.source.now (variable_text c.args.source.now c.args.variable) c.args.types.now c.in-Some.before.now c.in-Some.last.now c.in-Some.ensures.cases.0 in
    grind (arith, common_steps, e)
