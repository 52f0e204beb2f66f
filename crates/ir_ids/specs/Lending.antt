-- What an arena ends as, where a `&mut` to one of its values is returned. This project's own.
use Rattle.std.specs.Prelude.{ℕ, List, Option, Some, slice_set}
use Rattle.std.specs.Borrow.{LendsIf, Fml, RattleType, MutBor}
use Rattle.ir_ids.specs.declared.ids.Id.{Ghosts}
use Rattle.ir_ids.specs.contracts.arena.Arena.{the_row}

module _ (I T : RattleType) (ids : Ghosts I.Denot) (arena : MutBor (List (Option T.Denot))) (number : ℕ) where
  -- once the borrow r ends, the number has the last value written through r; without a borrow the arena stays as it is
  abbrev pub lends_entry : Option (MutBor T.Denot) → Fml
  lends_entry r = LendsIf (the_row I T ids) T arena r (λ value. slice_set arena.now number (Some value)) arena.now
