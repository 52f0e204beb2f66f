-- Worlds whose tables of symbols hold what they held (this project's own).
use Rattle.lambda_lists.specs.Readings.{KeepsSymbols}
use Rattle.form_expander.specs.declared.world.World.{World as World'}

-- the symbols of one world stand in another's table, unchanged and at their places, maybe with more after them
abbrev pub Keeps : World' → World' → Type 0
Keeps old new = KeepsSymbols old.symbols new.symbols
