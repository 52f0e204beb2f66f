use Rattle.std.proofs.Common.{◌+◌}
use Rattle.program_size.specs.Mentions.{functions_of}
use Rattle.program_size.specs.Counting.{unheld, news_count}
use Rattle.program_size.proofs.Looking.{Holding}
use Rattle.program_size.proofs.sizes.Sizes.hold_mentioned.Given as goal

abbrev pub invariant-loop-self : goal.invariant-loop-self
invariant-loop-self l = Holding l.heap (functions_of l.prelude) l.initial.self l.self

abbrev pub decreases-loop-self : goal.decreases-loop-self
decreases-loop-self l = unheld l.self (functions_of l.prelude) + unheld l.self (functions_of l.prelude) + news_count l.self
