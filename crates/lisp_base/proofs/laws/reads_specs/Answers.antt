use Rattle.lisp_base.proofs.ReadingLemmas.{reads_and, reads_or}
use Rattle.lisp_base.proofs.laws.reads_specs.Goals as goal

pub returns-clause-all : goal.returns-clause-all
returns-clause-all c = reads_and

pub returns-clause-some : goal.returns-clause-some
returns-clause-some c = reads_or
