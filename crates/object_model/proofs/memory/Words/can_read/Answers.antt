use Rattle.std.proofs.Common.{◌≡◌, ◌+◌, ◌*◌, None, sym, arith}
use Rattle.std.proofs.lemmas.Grind.{common_steps}
use Rattle.object_model.specs.Memory.{reach}
use Rattle.object_model.proofs.InOrder.{unread}
use Rattle.object_model.proofs.memory.Words.can_read.Goals as goal
use Rattle.object_model.proofs.memory.Words.can_read.Goals.{in-Some, in-None}

pub returns-then-is_none : goal.returns-then-is_none
returns-then-is_none g c =
    let memory = g.Self.Words.words c.args.self.now in
    let none : reach memory (c.args.address + 8 * c.loop-i.i) ≡ None =
    elim c.match-checked_add.branch [ in-Some w ↦ grind (arith, common_steps) | in-None w ↦ grind (arith, common_steps) ] in
    sym (unread memory c.args.address c.loop-i.i c.args.count none (omega arith))
