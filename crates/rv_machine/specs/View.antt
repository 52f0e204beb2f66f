-- What the emulator holds, as a state of the machine that rv_isa defines.
use Rattle.std.specs.Prelude.{ℕ, List, drop, Option}
use Rattle.rv_isa.specs.declared.ending.Ending.{Ending}
use Rattle.rv_isa.specs.Machine.{Space, State}
use Rattle.rv_machine.specs.declared.machine.Machine.{Machine}
use Rattle.rv_machine.specs.Registers.{registers_of}
use Rattle.rv_machine.specs.Memory.{memory_of, space_around}

-- what stays in a run: the code, and the lengths of the regions
abbrev pub space : Machine → Space
space m = space_around m.code.items m.memory

-- how many characters it has read
abbrev pub taken : Machine → ℕ
taken m = m.taken

abbrev pub ending : Machine → Option Ending
ending m = m.ending

-- The state, with what was written until then, in a run on an input. What is left of the input begins where the reading stands.
abbrev pub state : List ℕ → List ℕ → Machine → State
state output input m = record {
  registers = registers_of m.registers;
  pc = m.pc;
  memory = memory_of m.memory;
  output = output;
  input = drop m.taken input;
  ending = m.ending;
}
