use Rattle.std_macros.proofs.FreshOnes.{IsMaking}
use Rattle.std_macros.proofs.expand.fresh_symbols.Given as goal

abbrev pub invariant-loop-number : goal.invariant-loop-number
invariant-loop-number l = IsMaking l.fn.count l.fn.symbols l.made.items l.symbols l._number
