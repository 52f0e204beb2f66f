-- The words of a machine's memory, as its values are read (this project's: docs/texts.md).
use Rattle.std.specs.Prelude.{ℕ, Option}
use Rattle.rv_isa.specs.Machine.{Space}
use Rattle.rv_machine.specs.declared.machine.Machine.{Machine}
use Rattle.rv_machine.specs.Memory.{memory_of}
use Rattle.rv_machine.specs.View.{space}
use Rattle.rv_machine.specs.Steps.{bytes_at}

-- the word of eight bytes at an address, where the address is a multiple of 8 and one region has all of them
abbrev pub words : Space → (ℕ → ℕ) → ℕ → Option ℕ
words space memory address = bytes_at space memory address 8

abbrev pub words_of : Machine → ℕ → Option ℕ
words_of m = words (space m) (memory_of m.memory)
