use Rattle.std.proofs.Common.{◌≡◌, ◌<◌, ◌≤◌, ◌+◌, length}
use Rattle.lisp_reader.specs.Tokens.{comment_size, more}
use Rattle.lisp_reader.proofs.pieces.comment_size.Given as goal

abbrev pub invariant-loop-rest : goal.invariant-loop-rest
invariant-loop-rest l = record {
  rest : comment_size 1 l.text ≡ more l.size (comment_size l.depth l.rest);
  whole : l.size + length l.rest ≡ length l.text;
  open_ones : 0 < l.depth;
  few : l.depth ≤ l.size + 1;
}

abbrev pub decreases-loop-rest : goal.decreases-loop-rest
decreases-loop-rest l = length l.rest
