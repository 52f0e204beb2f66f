use Rattle.core_form.proofs.Fuel as fuel
use Rattle.core_form.proofs.laws.never_astray.Goals as goal

pub returns : goal.returns
returns c = fuel.never_astray
