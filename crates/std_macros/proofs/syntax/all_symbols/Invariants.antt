use Rattle.std.proofs.Common.{◌≡◌, drop}
use Rattle.std_macros.specs.Syntax.{all_symbols}
use Rattle.std_macros.proofs.syntax.all_symbols.Given as goal

abbrev pub invariant-loop-value : goal.invariant-loop-value
invariant-loop-value l = all_symbols (drop l.value-index l.values) ≡ all_symbols l.values
