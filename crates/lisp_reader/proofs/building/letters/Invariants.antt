use Rattle.std.proofs.Common.{◌≡◌, ◌++◌, drop, false}
use Rattle.lisp_reader.specs.Tokens.{letters}
use Rattle.lisp_reader.proofs.building.letters.Given as goal

abbrev pub invariant-loop-letter : goal.invariant-loop-letter
invariant-loop-letter l = letters false l.raw ≡ l.found.items ++ letters l.kept (drop l.letter-index l.raw)
