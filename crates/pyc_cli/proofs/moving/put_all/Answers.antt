use Rattle.pyc_cli.proofs.Pieces.{put_more}
use Rattle.pyc_cli.proofs.moving.put_all.Goals as goal

pub loop-rest-preserved : goal.loop-rest-preserved
loop-rest-preserved g c =
    put_more _ _ _ _ _ _ c.in-Bytes.count c.loop-rest.invariant c.in-Bytes.ensures.puts.2 c.in-Bytes.ensures.cause.later c.in-Bytes.ensures.memory.later c.split_at.ensures.back
