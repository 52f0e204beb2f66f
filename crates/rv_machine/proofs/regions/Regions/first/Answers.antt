use Rattle.std.proofs.Common.{◌/◌}
use Rattle.rv_machine.proofs.MemoryLaws.{memory_first}
use Rattle.rv_machine.proofs.regions.Regions.first.Goals as goal

pub returns-clause-words : goal.returns-clause-words
returns-clause-words c =
    rw (c.in_ok-heap.ensures, c.in_ok-control.ensures, c.in_ok-number.ensures) (memory_first c.args.statics.items (c.args.heap / 8) (c.args.stack / 8) (c.args.stack / 8) c.requires.statics)
