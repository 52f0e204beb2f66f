use Rattle.type_lattice.proofs.Widths.{below_signed}
use Rattle.type_lattice.proofs.named.highest_signed.Goals as goal

pub returns-then-bits-gt63 : goal.returns-then-bits-gt63
returns-then-bits-gt63 c = λ z v. below_signed c.args.bits z c.if-bits-gt63.true v
