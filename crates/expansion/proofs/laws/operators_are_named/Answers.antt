use Rattle.expansion.proofs.Named.{each_operator, are_the_operators, each_direct, direct_calls_are_direct, left_out_are_the_names, reserved_are_the_names}
use Rattle.expansion.proofs.laws.operators_are_named.Goals as goal

pub returns-clause-operators : goal.returns-clause-operators
returns-clause-operators c = each_operator

pub returns-clause-all_operators : goal.returns-clause-all_operators
returns-clause-all_operators c = are_the_operators

pub returns-clause-directs : goal.returns-clause-directs
returns-clause-directs c = each_direct

pub returns-clause-direct_calls : goal.returns-clause-direct_calls
returns-clause-direct_calls c = direct_calls_are_direct

pub returns-clause-left_out : goal.returns-clause-left_out
returns-clause-left_out c = left_out_are_the_names

pub returns-clause-reserved : goal.returns-clause-reserved
returns-clause-reserved c = reserved_are_the_names
