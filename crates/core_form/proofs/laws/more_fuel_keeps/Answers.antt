use Rattle.core_form.proofs.Fuel.{more_fuel, output_stays, counters_stay}
use Rattle.core_form.proofs.laws.more_fuel_keeps.Goals as goal

pub returns-clause-ending : goal.returns-clause-ending
returns-clause-ending c = more_fuel

pub returns-clause-output : goal.returns-clause-output
returns-clause-output c = output_stays

pub returns-clause-counters : goal.returns-clause-counters
returns-clause-counters c = counters_stay
