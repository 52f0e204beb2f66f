use Rattle.std.proofs.Common.{◌≡◌, ◌+◌, length}
use Rattle.lisp_reader.specs.Tokens.{tokens, utf8_length}
use Rattle.lisp_reader.specs.Machine.{run}
use Rattle.lisp_reader.specs.Held.{AllShort, KeepsAll, levels_of}
use Rattle.lisp_reader.specs.Seen.{world_of}
use Rattle.lisp_reader.proofs.read.read_tokens.Given as goal

abbrev pub invariant-loop-rest : goal.invariant-loop-rest
invariant-loop-rest l = record {
  same : run (world_of l.fn.progress l.fn.symbols l.fn.heap) l.end (tokens 0 l.fn.start l.fn.letters) ≡ run (world_of l.progress l.symbols l.heap) l.end (tokens 0 l.at l.rest);
  kept : KeepsAll l.fn.symbols l.fn.heap l.symbols l.heap;
  fits : l.at + utf8_length l.rest ≡ l.end;
  short : AllShort l.at (levels_of l.progress.levels);
}

abbrev pub decreases-loop-rest : goal.decreases-loop-rest
decreases-loop-rest l = length l.rest
