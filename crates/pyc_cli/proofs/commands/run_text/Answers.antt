use Rattle.std.proofs.Common.{◌∙◌}
use Rattle.pyc_cli.proofs.Inputs.{writes_text, writes_no_text}
use Rattle.pyc_cli.proofs.commands.run_text.Goals as goal

pub returns-in-Ok-clause-writes : goal.returns-in-Ok-clause-writes
returns-in-Ok-clause-writes g c =
    writes_text _ _ _ _ _ _ _ c.in-Ok.ensures.cases.0 c.in-Ok.ensures.cases.1 c.run_image.ensures.writes

pub returns-in-Err-clause-writes : goal.returns-in-Err-clause-writes
returns-in-Err-clause-writes g c =
    writes_no_text _ _ _ _ (g.O.Sink.sunk c.args.out.now) c.in-Err.ensures.cases.0 (c.valid_up_to.ensures ∙ c.in-Err.ensures.valid_len)
