use Rattle.std.proofs.Common.{◌≡◌, drop, None}
use Rattle.debug_info.specs.Tables.{are_sites}
use Rattle.debug_info.proofs.rules.are_rising_sites.Given as goal

abbrev pub invariant-loop-row : goal.invariant-loop-row
invariant-loop-row l = are_sites l.texts l.before (drop l.row-index l.rows) ≡ are_sites l.texts None l.rows
