use Rattle.expansion_laws.proofs.ThereLaws.{there_are_data, tops_have_data}
use Rattle.expansion_laws.proofs.TherePartLaws.{data_are_values}
use Rattle.expansion_laws.proofs.there.there_are_data.Goals as goal

pub returns-clause-values : goal.returns-clause-values
returns-clause-values c = there_are_data

pub returns-clause-tops : goal.returns-clause-tops
returns-clause-tops c = tops_have_data

pub returns-clause-given : goal.returns-clause-given
returns-clause-given c = data_are_values
