use Rattle.type_lattice.proofs.Widths.{below_unsigned}
use Rattle.type_lattice.proofs.named.highest_unsigned.Goals as goal

pub returns-then-bits-gt62 : goal.returns-then-bits-gt62
returns-then-bits-gt62 c = λ z v. below_unsigned c.args.bits z c.if-bits-gt62.true v
