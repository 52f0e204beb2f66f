use Rattle.expansion.proofs.FurtherForms.{further_examples}
use Rattle.expansion.proofs.SmallForms.{examples}
use Rattle.expansion.proofs.examples.examples_expand.Goals as goal

pub returns-clause-small : goal.returns-clause-small
returns-clause-small c = examples

pub returns-clause-further : goal.returns-clause-further
returns-clause-further c = further_examples
