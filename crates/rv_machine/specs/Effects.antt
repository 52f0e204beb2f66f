-- What each instruction asks of the machine: its operands and results (RISC-V Instruction Set Manual, Volume I).
use Rattle.std.specs.Prelude.{ℕ, ◌+◌, ◌*◌, ◌/◌}
use Rattle.rv_isa.specs.declared.instr.Instr.{Instr}
use Rattle.rv_isa.specs.declared.instr.Instr.TheVariants as i
use Rattle.rv_isa.specs.Machine.{Space, State, reg, sets, links, branches, loads, stores, calls}
use Rattle.rv_isa.specs.Operations.{extended, plus, word, upper_value, imm_value, shift_value, word_shift_value, op_value, word_op_value, is_taken}
use Rattle.rv_machine.specs.declared.effects.Effect.{Effect}
use Rattle.rv_machine.specs.declared.effects.Effect.TheVariants as e

-- what an instruction asks for, by the registers and its own address
abbrev pub effect : (ℕ → ℕ) → ℕ → Instr → Effect
effect f pc (i.Upper u rd n) = e.Set rd (upper_value u pc n)
effect f pc (i.Jal rd half) = e.Link rd (plus pc (extended 21 (half * 2)))
effect f pc (i.Jalr rd rs1 n) = e.Link rd (plus (reg f rs1) (extended 12 n) / 2 * 2)
effect f pc (i.Branch b rs1 rs2 half) = e.Branch (is_taken b (reg f rs1) (reg f rs2)) (plus pc (extended 13 (half * 2)))
effect f pc (i.Load l rd rs1 n) = e.Load l rd (plus (reg f rs1) (extended 12 n))
effect f pc (i.Store s rs1 rs2 n) = e.Store s (plus (reg f rs1) (extended 12 n)) (reg f rs2)
effect f pc (i.Imm o rd rs1 n) = e.Set rd (imm_value o (reg f rs1) (extended 12 n))
effect f pc (i.Shift s rd rs1 n) = e.Set rd (shift_value s (reg f rs1) n)
effect f pc (i.Addiw rd rs1 n) = e.Set rd (word (reg f rs1 + extended 12 n))
effect f pc (i.ShiftWord s rd rs1 n) = e.Set rd (word_shift_value s (reg f rs1) n)
effect f pc (i.Op o rd rs1 rs2) = e.Set rd (op_value o (reg f rs1) (reg f rs2))
effect f pc (i.WordOp o rd rs1 rs2) = e.Set rd (word_op_value o (reg f rs1) (reg f rs2))
effect f pc i.Ecall = e.Call

-- the environment call whose number is in x17
abbrev pub call : State → State
call m = calls (reg m.registers 17) m

-- the state in which it leaves the machine
abbrev pub effected : Space → Effect → State → State
effected space (e.Set rd v) m = sets rd v m
effected space (e.Link rd target) m = links rd target m
effected space (e.Branch taken target) m = branches taken target m
effected space (e.Load l rd address) m = loads space l rd address m
effected space (e.Store s address v) m = stores space s address v m
effected space e.Call m = call m
