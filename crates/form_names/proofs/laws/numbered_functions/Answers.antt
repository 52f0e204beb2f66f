use Rattle.form_names.proofs.InOrder.{in_order}
use Rattle.form_names.proofs.Locals.{inside}
use Rattle.core_form.specs.Facts.{functions_in}
use Rattle.form_names.proofs.laws.numbered_functions.Goals as goal

pub returns-clause-numbered : goal.returns-clause-numbered
returns-clause-numbered c = λ e counted t h. in_order (functions_in e) counted t h

pub returns-clause-local : goal.returns-clause-local
returns-clause-local c = λ e k t h. (inside e).each k t h
