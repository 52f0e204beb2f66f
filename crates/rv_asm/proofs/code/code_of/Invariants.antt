use Rattle.std.proofs.Common.{vec_len}
use Rattle.rv_asm.proofs.Marks.{Stands}
use Rattle.rv_asm.proofs.Instrs.{IsMade}
use Rattle.rv_asm.proofs.code.code_of.Given as goal

abbrev pub invariant-loop-item : goal.invariant-loop-item
invariant-loop-item l =
    Stands l.items (vec_len l.code) l.item-index × IsMade l.labels l.items l.code.items (vec_len l.code) l.item-index
