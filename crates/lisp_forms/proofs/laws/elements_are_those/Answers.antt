use Rattle.lisp_forms.proofs.ListsOf.{elements_are_those, lists_are_found}
use Rattle.lisp_forms.proofs.laws.elements_are_those.Goals as goal

pub returns-clause-those : goal.returns-clause-those
returns-clause-those c = elements_are_those

pub returns-clause-found : goal.returns-clause-found
returns-clause-found c = lists_are_found
