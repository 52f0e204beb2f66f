use Rattle.core_form.specs.TextPage.{page_of}
use Rattle.core_form.proofs.TextRequired.{required_more}
use Rattle.core_form.proofs.text_variables.write_required.Goals as goal

pub loop-parameter-preserved : goal.loop-parameter-preserved
loop-parameter-preserved c =
    required_more c.args.source.now c.args.parameters.now c.loop-parameter.parameter-index c.parameter-item.result (page_of c.loop-parameter.page) (page_of c.write_parameter.new.page) (page_of c.know_variable.new.page) _ c.loop-parameter-test.true c.parameter-item.is c.in_ok-write_parameter.ensures c.in_ok-know_variable.ensures c.loop-parameter.invariant
