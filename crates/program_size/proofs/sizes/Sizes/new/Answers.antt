use Rattle.std.proofs.Common.{refl}
use Rattle.program_size.proofs.Added.{begun}
use Rattle.program_size.proofs.sizes.Sizes.new.Goals as goal

pub returns : goal.returns
returns c = λ prelude heap there. begun _ c.new.ensures c.new-2.ensures.empty refl refl prelude heap there
