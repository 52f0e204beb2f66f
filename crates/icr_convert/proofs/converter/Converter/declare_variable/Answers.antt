use Rattle.std.proofs.Common.{◌≡◌, Some}
use Rattle.std.proofs.lemmas.Result.{on_ok_weaker}
use Rattle.ir_ids.specs.Entries.{map_of, with_entry}
use Rattle.icr_convert.proofs.Tables.{declared}
use Rattle.icr_convert.proofs.converter.Converter.declare_variable.Goals as goal

pub returns : goal.returns
returns c =
    on_ok_weaker {P = map_of c.put.new.list.items ≡ with_entry (map_of c.args.variables.now.items) c.args.number (Some c.in_ok-variable.variable)} c.put.result
    (λ put. declared _ c.in_ok-variable.ensures put c.is_cell.ensures c.is_word.ensures (c.is_told.ensures c.if-not-is_told.false)) c.put.ensures
