use Rattle.std.proofs.Common.{◌≡◌, ◌+◌, ◌<◌, ◌≤◌, length}
use Rattle.lisp_reader.specs.Tokens.{string_size, more}
use Rattle.lisp_reader.proofs.pieces.string_size.Given as goal

abbrev pub invariant-loop-rest : goal.invariant-loop-rest
invariant-loop-rest l = record {
  rest : string_size l.text ≡ more l.size (string_size l.rest);
  whole : 0 < length l.rest → l.size + length l.rest ≡ length l.text;
  bound : l.size ≤ length l.text + 1;
}

abbrev pub decreases-loop-rest : goal.decreases-loop-rest
decreases-loop-rest l = length l.rest
