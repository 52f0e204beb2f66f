use Rattle.expansion.specs.Scopes.{at_form}
use Rattle.form_expander.specs.Reading.{scope_of}
use Rattle.form_expander.proofs.Kept.{extends_on}
use Rattle.form_expander.proofs.Within.{at_form_extends}
use Rattle.form_expander.proofs.expander.Expander.read_definition.Goals as goal

pub returns-clause-extends : goal.returns-clause-extends
returns-clause-extends c =
    let old = scope_of c.args.self.now.scope in
    let heap = c.args.self.now.world.heap in
    extends_on old (at_form heap c.args.value old) (scope_of c.enter_form.new.self) (at_form_extends heap c.args.value old) c.enter_form.ensures
