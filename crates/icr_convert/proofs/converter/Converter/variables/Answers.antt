use Rattle.icr_convert.proofs.Tables.{variables_on}
use Rattle.icr_convert.proofs.converter.Converter.variables.Goals as goal

pub loop-binder-preserved : goal.loop-binder-preserved
loop-binder-preserved c = variables_on c.loop-binder.invariant c.in_ok-declare.ensures
