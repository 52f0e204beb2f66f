use Rattle.std.proofs.Common.{◌≡◌, drop, None}
use Rattle.debug_info.specs.Tables.{are_functions}
use Rattle.debug_info.proofs.rules.are_rising_functions.Given as goal

abbrev pub invariant-loop-row : goal.invariant-loop-row
invariant-loop-row l = are_functions l.texts l.before (drop l.row-index l.rows) ≡ are_functions l.texts None l.rows
