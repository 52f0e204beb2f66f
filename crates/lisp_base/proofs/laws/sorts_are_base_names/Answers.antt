use Rattle.lisp_base.proofs.NameLaws as laws
use Rattle.lisp_base.proofs.laws.sorts_are_base_names.Goals as goal

pub returns : goal.returns
returns c = laws.sorts
