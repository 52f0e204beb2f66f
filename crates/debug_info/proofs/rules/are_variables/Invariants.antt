use Rattle.std.proofs.Common.{◌≡◌, drop}
use Rattle.std.specs.List.{list_all}
use Rattle.debug_info.specs.Tables.{is_variable}
use Rattle.debug_info.proofs.rules.are_variables.Given as goal

abbrev pub invariant-loop-row : goal.invariant-loop-row
invariant-loop-row l = list_all (is_variable l.texts) (drop l.row-index l.rows) ≡ list_all (is_variable l.texts) l.rows
