use Rattle.core_form.proofs.ReadingLemmas.{reads_progn, reads_primitive}
use Rattle.core_form.proofs.laws.reads_lists.Goals as goal

pub returns-clause-sequence : goal.returns-clause-sequence
returns-clause-sequence c = reads_progn

pub returns-clause-call : goal.returns-clause-call
returns-clause-call c = reads_primitive
