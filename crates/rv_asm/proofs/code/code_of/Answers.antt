-- After the last item the code holds all that was made.
use Rattle.std.proofs.Common.{vec_len, arith}
use Rattle.rv_asm.proofs.Growth.{AreLawful-from_holds}
use Rattle.rv_asm.proofs.Instrs.{IsMade-end}
use Rattle.rv_asm.proofs.code.code_of.Goals as goal

pub returns-clause-lawful : goal.returns-clause-lawful
returns-clause-lawful c =
    let made = IsMade-end c.args.labels.now c.args.items.now c.loop-item.code.items (vec_len c.loop-item.code) c.loop-item.item-index (omega arith) c.loop-item.invariant.1 in
    AreLawful-from_holds c.loop-item.code.items made.0 made.2

pub returns-clause-made : goal.returns-clause-made
returns-clause-made c =
    IsMade-end c.args.labels.now c.args.items.now c.loop-item.code.items (vec_len c.loop-item.code) c.loop-item.item-index (omega arith) c.loop-item.invariant.1
