use Rattle.object_model.proofs.Numbers.{fixnum_reads_back}
use Rattle.object_model.proofs.laws.fixnums_read_back.Goals as goal

pub returns : goal.returns
returns c = fixnum_reads_back
