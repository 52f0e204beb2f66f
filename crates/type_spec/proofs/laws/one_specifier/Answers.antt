use Rattle.type_spec.proofs.Unique.{unique}
use Rattle.type_spec.proofs.laws.one_specifier.Goals as goal

pub returns : goal.returns
returns c = unique
