use Rattle.expansion_laws.proofs.DefinitionForms.{forms_define}
use Rattle.expansion_laws.proofs.definitions.forms_define.Goals as goal

pub returns : goal.returns
returns c = record { defined = forms_define }
