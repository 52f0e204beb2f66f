use Rattle.expansion_laws.proofs.Planning.{planned}
use Rattle.expansion_laws.proofs.plans.plans_are_derived.Goals as goal

pub returns : goal.returns
returns c = planned
