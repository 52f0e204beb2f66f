use Rattle.lambda_lists.proofs.Cuts.{sections_write_lists, sections_are_found}
use Rattle.lambda_lists.proofs.laws.sections_are_those.Goals as goal

pub returns-clause-written : goal.returns-clause-written
returns-clause-written c = sections_write_lists

pub returns-clause-found : goal.returns-clause-found
returns-clause-found c = sections_are_found
