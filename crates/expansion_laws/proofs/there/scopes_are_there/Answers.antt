use Rattle.expansion_laws.proofs.TherePartLaws.{forms_have_scopes, declarations_have_scopes}
use Rattle.expansion_laws.proofs.there.scopes_are_there.Goals as goal

pub returns-clause-forms : goal.returns-clause-forms
returns-clause-forms c = forms_have_scopes

pub returns-clause-declarations : goal.returns-clause-declarations
returns-clause-declarations c = declarations_have_scopes
