use Rattle.std.proofs.Common.{◌≡◌, ◌≤◌, take}
use Rattle.lisp_reader.specs.Tokens.{amount, integers_end}
use Rattle.lisp_reader.proofs.numbers.amount.Given as goal

abbrev pub invariant-loop-letter : goal.invariant-loop-letter
invariant-loop-letter l = record {
  so_far : l.total ≡ amount l.base (take l.letter-index l.word);
  small : l.total ≤ integers_end;
}
