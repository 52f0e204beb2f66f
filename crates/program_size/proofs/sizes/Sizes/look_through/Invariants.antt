use Rattle.program_size.specs.Mentions.{functions_of}
use Rattle.program_size.proofs.Looking.{Looking}
use Rattle.program_size.proofs.sizes.Sizes.look_through.Given as goal

abbrev pub invariant-loop-i : goal.invariant-loop-i
invariant-loop-i l = Looking l.heap (functions_of l.prelude) l.fn.self l.self l.i
