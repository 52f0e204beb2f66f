use Rattle.std.proofs.Common.{Some, ap, ◌∙◌, arith}
use Rattle.ir_ids.specs.Entries.{map_of, with_entry}
use Rattle.icr_convert.proofs.Slots.{longer, written}
use Rattle.icr_convert.proofs.numbered.put.Goals as goal

pub loop-list-preserved : goal.loop-list-preserved
loop-list-preserved g c = ap map_of c.in_ok-push.ensures.items ∙ longer c.loop-list.list.items ∙ c.loop-list.invariant

pub returns : goal.returns
returns g c =
    written c.loop-list.list.items c.args.number (Some c.args.value) (omega arith) ∙ ap (λ m. with_entry m c.args.number (Some c.args.value)) c.loop-list.invariant
