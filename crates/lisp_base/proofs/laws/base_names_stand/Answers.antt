use Rattle.lisp_base.proofs.NameLaws as laws
use Rattle.lisp_base.proofs.laws.base_names_stand.Goals as goal

pub returns-clause-found : goal.returns-clause-found
returns-clause-found c = laws.found

pub returns-clause-computed : goal.returns-clause-computed
returns-clause-computed c = laws.computed
