use Rattle.std.proofs.lemmas.Result.{on_ok_weaker}
use Rattle.lisp_reader.specs.Tokens.{placed}
use Rattle.lisp_reader.specs.Spelled.{token_of}
use Rattle.lisp_reader.specs.Seen.{world_of}
use Rattle.lisp_reader.proofs.Shorts.{step_short}
use Rattle.lisp_reader.proofs.read.read_piece.Goals as goal

pub returns-in-Some-clause-short : goal.returns-in-Some-clause-short
returns-in-Some-clause-short c = on_ok_weaker c.step.result (λ e. step_short c.args.at (world_of c.args.progress.now c.args.symbols.now c.args.heap.now) (world_of c.step.new.self c.step.new.symbols c.step.new.heap) c.args.end (placed c.args.at (token_of c.in-Some.token)) e c.requires.short) c.step.ensures.ok
