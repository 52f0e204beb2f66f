-- Code that holds instructions: four bytes a word, the lowest first (RISC-V Instruction Set Manual, Volume I, "Base Instruction-Length Encoding").
use Rattle.std.specs.Prelude.{ℕ, ◌≡◌, ◌<◌, ◌^◌, List, ◌++◌, map, All, Some, IsSome, Result, Ok}
use Rattle.std.specs.List.{flat_map}
use Rattle.std.specs.Int.{w32, to_le_bytes}
use Rattle.rv_isa.specs.declared.instr.Instr.{Instr}
use Rattle.rv_isa.specs.Encoding.{encoding, decoded}
use Rattle.rv_isa.specs.Start.{words32}
use Rattle.rv_asm.specs.declared.fault.AsmFault.{AsmFault}

abbrev pub bytes_of : List Instr → List ℕ
bytes_of xs = flat_map (λ x. to_le_bytes w32 (encoding x)) xs

-- The code holds these instructions: their words, each of which is read as its instruction.
pub record Holds (code : List ℕ) (xs : List Instr) : Type 0 where
  pub bytes : code ≡ bytes_of xs
  pub words : words32 code ≡ map encoding xs
  pub read : map decoded (words32 code) ≡ map Some xs

-- each word of the code is read as an instruction
abbrev pub AreLawful : List ℕ → Type 0
AreLawful code = All (λ w. IsSome (decoded w)) (words32 code)

-- the code holds the instructions that were made
abbrev pub HoldsMade : List ℕ → Result (List Instr) AsmFault → Type 0
HoldsMade code r = (xs : List Instr) × (r ≡ Ok xs) × Holds code xs

-- the word of the instruction has 32 bits, and is read as the instruction
abbrev pub IsLawful : Instr → Type 0
IsLawful x = (encoding x < 2 ^ 32) × (decoded (encoding x) ≡ Some x)

-- The bytes are those of lawful instructions.
pub record Written (code : List ℕ) (xs : List Instr) : Type 0 where
  pub bytes : code ≡ bytes_of xs
  pub lawful : All IsLawful xs

-- what is written grew by these instructions
abbrev pub Grew : List ℕ → List ℕ → List Instr → Type 0
Grew old new xs = (ys : List Instr) → Written old ys → Written new (ys ++ xs)

-- what is written grew by the instructions that were made
abbrev pub GrewMade : List ℕ → List ℕ → Result (List Instr) AsmFault → Type 0
GrewMade old new r = (xs : List Instr) × (r ≡ Ok xs) × Grew old new xs
