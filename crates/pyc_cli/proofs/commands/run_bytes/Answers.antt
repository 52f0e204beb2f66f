use Rattle.pyc_cli.proofs.Inputs.{runs_refused}
use Rattle.pyc_cli.proofs.commands.run_bytes.Goals as goal

pub returns-in-Err-clause-runs : goal.returns-in-Err-clause-runs
returns-in-Err-clause-runs g c = rw c.bad_image.ensures (runs_refused _ _ _ _ _ c.in-Err.ensures.exact)
