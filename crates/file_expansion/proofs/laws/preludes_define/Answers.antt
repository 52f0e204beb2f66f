use Rattle.file_expansion.proofs.Lawful.{preludes_define}
use Rattle.file_expansion.proofs.laws.preludes_define.Goals as goal

pub returns : goal.returns
returns c = preludes_define c.forms_define.ensures.defined
