use Rattle.std.proofs.Common.{length}
use Rattle.pyc_cli.proofs.Pieces.{PutFront}
use Rattle.pyc_cli.proofs.moving.put_all.Given as goal

-- a front of the piece is put
abbrev pub invariant-loop-rest : goal.invariant-loop-rest
invariant-loop-rest g l = PutFront (g.S.Sink.sunk l.initial.sink) (g.S.Sink.sunk l.sink) l.piece l.rest

abbrev pub decreases-loop-rest : goal.decreases-loop-rest
decreases-loop-rest g l = length l.rest
