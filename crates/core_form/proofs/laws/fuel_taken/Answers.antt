use Rattle.core_form.proofs.Taken.{takes_within, unfinished_took_all, enough_was_taken, taken_stays}
use Rattle.core_form.proofs.laws.fuel_taken.Goals as goal

pub returns-clause-within : goal.returns-clause-within
returns-clause-within c = takes_within

pub returns-clause-all : goal.returns-clause-all
returns-clause-all c = unfinished_took_all

pub returns-clause-enough : goal.returns-clause-enough
returns-clause-enough c = enough_was_taken

pub returns-clause-stays : goal.returns-clause-stays
returns-clause-stays c = taken_stays
