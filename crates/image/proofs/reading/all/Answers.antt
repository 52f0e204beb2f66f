use Rattle.std.proofs.Common.{arith, length}
use Rattle.image.specs.View.{header}
use Rattle.image.proofs.ImageLaws.{debug_length_fits}
use Rattle.image.proofs.reading.all.Goals as goal

pub parts_of-requires : goal.parts_of-requires
parts_of-requires c =
    debug_length_fits (length c.args.bytes.now) c.args.bytes.now (header c.in_ok-lengths.lengths, c.in_ok-lengths.rest.now) (λ i. omega (arith, c.type_inv.bytes i)) c.in_ok-lengths.ensures
