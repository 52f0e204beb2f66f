use Rattle.pyc_cli.proofs.Inputs.{runs_all, runs_long, runs_fault, runs_short}
use Rattle.pyc_cli.proofs.commands.run_input.Goals as goal

pub returns-in-All-clause-runs : goal.returns-in-All-clause-runs
returns-in-All-clause-runs g c =
    let takes = c.in-All.ensures.takes in
    runs_all _ _ _ _ _ _ _ _ _ c.deref.ensures.value takes.0 takes.1 takes.2 c.run_text.ensures.writes

pub returns-in-TooLong-clause-runs : goal.returns-in-TooLong-clause-runs
returns-in-TooLong-clause-runs g c =
    let takes = c.in-TooLong.ensures.takes in
    runs_long _ _ takes.0 _ _ _ takes.1 takes.2

pub returns-in-Failed-clause-runs : goal.returns-in-Failed-clause-runs
returns-in-Failed-clause-runs g c = let takes = c.in-Failed.ensures.takes in runs_fault _ _ _ _ _ takes.0 takes.1

pub returns-in-Memory-clause-runs : goal.returns-in-Memory-clause-runs
returns-in-Memory-clause-runs g c = runs_short _ _ _ _ _ c.in-Memory.ensures.takes
