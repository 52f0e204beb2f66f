-- Which instructions there are: each number within its field (the formats of the RISC-V Instruction Set Manual, Volume I).
use Rattle.std.specs.Prelude.{ℕ, ◌≡◌, ◌^◌, ◌<◌, List, [], ◌∷◌}
use Rattle.rv_isa.specs.declared.instr.Instr.{Instr}
use Rattle.rv_isa.specs.declared.instr.Instr.TheVariants as i
use Rattle.rv_isa.specs.Encoding.{encoding}

abbrev pub IsInstr : Instr → Type 0
IsInstr (i.Upper u rd n) = (rd < 2 ^ 5) × (n < 2 ^ 20)
IsInstr (i.Jal rd half) = (rd < 2 ^ 5) × (half < 2 ^ 20)
IsInstr (i.Jalr rd rs1 n) = (rd < 2 ^ 5) × (rs1 < 2 ^ 5) × (n < 2 ^ 12)
IsInstr (i.Branch b rs1 rs2 half) = (rs1 < 2 ^ 5) × (rs2 < 2 ^ 5) × (half < 2 ^ 12)
IsInstr (i.Load l rd rs1 n) = (rd < 2 ^ 5) × (rs1 < 2 ^ 5) × (n < 2 ^ 12)
IsInstr (i.Store s rs1 rs2 n) = (rs1 < 2 ^ 5) × (rs2 < 2 ^ 5) × (n < 2 ^ 12)
IsInstr (i.Imm o rd rs1 n) = (rd < 2 ^ 5) × (rs1 < 2 ^ 5) × (n < 2 ^ 12)
IsInstr (i.Shift s rd rs1 n) = (rd < 2 ^ 5) × (rs1 < 2 ^ 5) × (n < 2 ^ 6)
IsInstr (i.Addiw rd rs1 n) = (rd < 2 ^ 5) × (rs1 < 2 ^ 5) × (n < 2 ^ 12)
IsInstr (i.ShiftWord s rd rs1 n) = (rd < 2 ^ 5) × (rs1 < 2 ^ 5) × (n < 2 ^ 5)
IsInstr (i.Op o rd rs1 rs2) = (rd < 2 ^ 5) × (rs1 < 2 ^ 5) × (rs2 < 2 ^ 5)
IsInstr (i.WordOp o rd rs1 rs2) = (rd < 2 ^ 5) × (rs1 < 2 ^ 5) × (rs2 < 2 ^ 5)
IsInstr i.Ecall = Unit {0}

abbrev pub AreInstrs : List Instr → Type 0
AreInstrs [] = Unit {0}
AreInstrs (x ∷ xs) = IsInstr x × AreInstrs xs

-- the word of some instruction
abbrev pub IsWord : ℕ → Type 0
IsWord w = (x : Instr) × IsInstr x × (encoding x ≡ w)
