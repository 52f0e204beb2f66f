use Rattle.lisp_base.proofs.SpecLemmas.{reads_and}
use Rattle.lisp_base.proofs.row_types.all_of.Goals as goal

pub returns : goal.returns
returns c = reads_and c.args.parts
