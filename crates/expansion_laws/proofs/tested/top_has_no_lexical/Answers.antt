use Rattle.expansion_laws.proofs.TestedMaking.{declarations_bind_no_lexical}
use Rattle.expansion_laws.proofs.tested.top_has_no_lexical.Goals as goal

pub returns-clause-declarations : goal.returns-clause-declarations
returns-clause-declarations c = declarations_bind_no_lexical
