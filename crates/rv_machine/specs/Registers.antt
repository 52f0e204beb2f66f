-- The registers, by their numbers.
use Rattle.std.specs.Prelude.{ℕ, slice_index_or}
use Rattle.rv_machine.specs.declared.registers.Registers.{Registers}

abbrev pub registers_of : Registers → ℕ → ℕ
registers_of r n = slice_index_or r.words n 0
