use Rattle.expansion_laws.proofs.LawfulTops.{tops_are_empty, tops_are_sound, forms_stay, declarations_stay, policies_stay, tops_are_bound}
use Rattle.expansion_laws.proofs.lawful_trees.tops_have_scopes.Goals as goal

pub returns-clause-empty : goal.returns-clause-empty
returns-clause-empty c = tops_are_empty

pub returns-clause-sound : goal.returns-clause-sound
returns-clause-sound c = tops_are_sound

pub returns-clause-forms : goal.returns-clause-forms
returns-clause-forms c = forms_stay

pub returns-clause-declarations : goal.returns-clause-declarations
returns-clause-declarations c = declarations_stay

pub returns-clause-policies : goal.returns-clause-policies
returns-clause-policies c = policies_stay

pub returns-clause-bound : goal.returns-clause-bound
returns-clause-bound c = tops_are_bound
