use Rattle.lisp_base.proofs.SpecLemmas.{reads_or}
use Rattle.lisp_base.proofs.row_types.any_of.Goals as goal

pub returns : goal.returns
returns c = reads_or c.args.parts
