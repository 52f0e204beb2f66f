use Rattle.core_form.proofs.Layered.{program_is_its_forms, forms_are_by_fuel, forms_are_never_full}
use Rattle.core_form.proofs.laws.forms_are_layers.Goals as goal

pub returns-clause-program : goal.returns-clause-program
returns-clause-program c = program_is_its_forms

pub returns-clause-full : goal.returns-clause-full
returns-clause-full c = forms_are_never_full

pub returns-clause-fuel : goal.returns-clause-fuel
returns-clause-fuel c = forms_are_by_fuel
