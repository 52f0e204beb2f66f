use Rattle.std.proofs.Common.{arith}
use Rattle.image.proofs.FieldLaws.{part_size}
use Rattle.image.proofs.reading.parts_of.Goals as goal

pub debug_of-requires : goal.debug_of-requires
debug_of-requires c =
    let size = part_size c.args.lengths.debug c.args.end c.in_ok-statics.rest.now (c.in_ok-debug.debug.now, c.in_ok-debug.rest.now) c.in_ok-debug.ensures in
    omega (arith, size, c.requires)
