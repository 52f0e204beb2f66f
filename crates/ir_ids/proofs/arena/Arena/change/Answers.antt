-- The slot that was written is that of the identifier, which was live.
use Rattle.std.proofs.Common.{Some, sym}
use Rattle.ir_ids.specs.Laws.{set_entry}
use Rattle.ir_ids.proofs.arena.Arena.change.Goals as goal

pub returns-clause-changed : goal.returns-clause-changed
returns-clause-changed g c =
    rw (← c.self.view_is, ← c.number.ensures, ← c.replace.ensures.after)
    (set_entry c.self.inside.slots.slots c.number.result (Some c.replace.new.dest) _ (sym c.in-Some.ensures.value))
