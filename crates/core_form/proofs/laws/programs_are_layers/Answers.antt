use Rattle.core_form.proofs.Layered.{programs_are_by_fuel, programs_are_never_full, programs_never_go_astray}
use Rattle.core_form.proofs.laws.programs_are_layers.Goals as goal

pub returns-clause-fuel : goal.returns-clause-fuel
returns-clause-fuel c = programs_are_by_fuel

pub returns-clause-full : goal.returns-clause-full
returns-clause-full c = programs_are_never_full

pub returns-clause-astray : goal.returns-clause-astray
returns-clause-astray c = programs_never_go_astray
