use Rattle.std_macros.proofs.Named.{each_macro, are_the_macros, others_are_none}
use Rattle.std_macros.proofs.laws.macros_are_named.Goals as goal

pub returns-clause-each : goal.returns-clause-each
returns-clause-each c = each_macro

pub returns-clause-all : goal.returns-clause-all
returns-clause-all c = are_the_macros

pub returns-clause-others : goal.returns-clause-others
returns-clause-others c = others_are_none
