use Rattle.std.proofs.Common.{arith}
use Rattle.compiler.proofs.Unbuilt.{too_few_nils, too_many_nils}
use Rattle.compiler.proofs.built.are_three_nils.Goals as goal

pub returns-in_default : goal.returns-in_default
returns-in_default c = too_few_nils c.args.parts.now (let h = c.in_default.len_below in omega (arith, h))

pub returns-in_default-2 : goal.returns-in_default-2
returns-in_default-2 c = too_many_nils c.args.parts.now (let h = c.in_default.len_at_least in omega (arith, h))
