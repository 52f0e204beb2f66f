use Rattle.std.proofs.Common.{arith}
use Rattle.pyc_cli.proofs.Pieces.{front_taken, front_more}
use Rattle.pyc_cli.proofs.moving.take_input.Goals as goal

pub returns-in-Failed-clause-takes : goal.returns-in-Failed-clause-takes
returns-in-Failed-clause-takes g c =
    let before = c.loop-bytes.invariant in
    let failed = c.in-Failed.ensures.takes in
    let later = before.1 in
    let rose = failed.0 in
    (omega arith, front_taken _ _ _ _ before.0 before.2 failed.1)

pub returns-in-Memory-clause-takes : goal.returns-in-Memory-clause-takes
returns-in-Memory-clause-takes g c =
    let before = c.loop-bytes.invariant in
    let more = c.in-Memory.ensures.takes in
    front_more _ _ _ _ _ _ before.0 more.1 (omega arith) more.2
