use Rattle.std.proofs.Common.{arith}
use Rattle.icr_convert.proofs.Letting.{left_after_some}
use Rattle.icr_convert.proofs.binding.left_after.Goals as goal

pub returns-else-is_empty : goal.returns-else-is_empty
returns-else-is_empty c = left_after_some c.args.bindings.now c.args.cost (grind arith)
