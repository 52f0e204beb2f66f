use Rattle.form_expander.proofs.Keeping.{fresh_keeps}
use Rattle.form_expander.proofs.functions.fresh_symbol.Goals as goal

pub returns-in-Ok-clause-keeps : goal.returns-in-Ok-clause-keeps
returns-in-Ok-clause-keeps c = fresh_keeps _ _ _ c.in-Ok.ensures.ok
