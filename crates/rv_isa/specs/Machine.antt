-- The machine: its memory, its states, and its step. The instructions are those of the RISC-V Instruction Set Manual, Volume I; regions, environment calls and traps are this project's (docs/machine.md).
use Rattle.std.specs.Prelude.{ℕ, ◌+◌, ◌-◌, ◌*◌, ◌/◌, ◌%◌, ◌^◌, Bool, nat_lt, nat_le, ◌==◌, ◌&&◌, ◌||◌, if◌then◌else◌, List, [], ◌∷◌, ◌++◌, length, slice_index_or, zero, suc, Option, Some, None}
use Rattle.rv_isa.specs.declared.instr.Instr.{Instr}
use Rattle.rv_isa.specs.declared.instr.Instr.TheVariants as i
use Rattle.rv_isa.specs.declared.instr.Load.{Load}
use Rattle.rv_isa.specs.declared.instr.Store.{Store}
use Rattle.rv_isa.specs.declared.ending.Ending.{Ending}
use Rattle.rv_isa.specs.declared.ending.Ending.TheVariants as ending
use Rattle.rv_isa.specs.Encoding.{decoded}
use Rattle.rv_isa.specs.Operations.{extended, plus, upper_value, imm_value, shift_value, word_shift_value, op_value, word_op_value, word, is_taken, load_bytes, load_value, store_bytes}

-- What stays in a run: the words of the code, and the lengths of the other regions in bytes.
pub record Space : Type 0 where
  pub code : List ℕ
  pub statics : ℕ
  pub heap : ℕ
  pub stack : ℕ

-- A state. The memory has the word of eight bytes at 8 times each index, the code's aside.
pub record State : Type 0 where
  pub registers : ℕ → ℕ
  pub pc : ℕ
  pub memory : ℕ → ℕ
  pub output : List ℕ
  pub input : List ℕ
  pub ending : Option Ending

-- a function that differs at one place
abbrev pub put : ℕ → ℕ → (ℕ → ℕ) → ℕ → ℕ
put k v f n = if n == k then v else f n

-- ---- memory

-- n bytes from an address lie in the region of this length
abbrev pub is_inside : ℕ → ℕ → ℕ → ℕ → Bool
is_inside start size address n = nat_le start address && nat_le (address + n) (start + size)

abbrev pub in_code : Space → ℕ → ℕ → Bool
in_code space = is_inside 0x00010000 (4 * length space.code)

abbrev pub in_data : Space → ℕ → ℕ → Bool
in_data space address n =
    is_inside 0x20000000 space.statics address n || (
    is_inside 0x40000000 space.heap address n || (
    is_inside 0x60000000 space.stack address n ||
    is_inside 0x70000000 space.stack address n))

-- where n bytes may be written, and where they may be read
abbrev pub is_writable : Space → ℕ → ℕ → Bool
is_writable space address n = address % n == 0 && in_data space address n

abbrev pub is_readable : Space → ℕ → ℕ → Bool
is_readable space address n = address % n == 0 && (in_code space address n || in_data space address n)

-- the word of the code at an index from its start, and two of them, the first one low
abbrev pub code_word : Space → ℕ → ℕ
code_word space k = slice_index_or space.code k 0

abbrev pub word_at : Space → (ℕ → ℕ) → ℕ → ℕ
word_at space memory address =
    if in_code space address 1
    then (let k = address / 8 * 2 - 0x4000 in code_word space k + code_word space (k + 1) * 2 ^ 32)
    else memory (address / 8)

-- the n bytes from an address, which are within one word
abbrev pub bytes_of : ℕ → ℕ → ℕ → ℕ
bytes_of word address n = word / 2 ^ (address % 8 * 8) % 2 ^ (n * 8)

-- a word with n of its bytes changed
abbrev pub with_bytes : ℕ → ℕ → ℕ → ℕ → ℕ
with_bytes word address n v =
    let k = address % 8 * 8 in
    (word / 2 ^ (k + n * 8) * 2 ^ (n * 8) + v % 2 ^ (n * 8)) * 2 ^ k + word % 2 ^ k

-- ---- registers

-- x0 reads 0
abbrev pub reg : (ℕ → ℕ) → ℕ → ℕ
reg f r = if r == 0 then 0 else f r

abbrev pub put_reg : ℕ → ℕ → (ℕ → ℕ) → ℕ → ℕ
put_reg rd v f = if rd == 0 then f else put rd v f

-- ---- the step

abbrev pub ended : Ending → State → State
ended e m = record m { ending = Some e }

abbrev pub trapped : State → State
trapped m = ended (ending.Trap m.pc) m

-- on to the next instruction, with a register set
abbrev pub sets : ℕ → ℕ → State → State
sets rd v m = record m { registers = put_reg rd v m.registers; pc = m.pc + 4 }

-- on to an address, with the address of the next instruction in a register
abbrev pub links : ℕ → ℕ → State → State
links rd target m = record m { registers = put_reg rd (m.pc + 4) m.registers; pc = target }

abbrev pub branches : Bool → ℕ → State → State
branches taken target m = record m { pc = if taken then target else m.pc + 4 }

abbrev pub loads : Space → Load → ℕ → ℕ → State → State
loads space l rd address m =
    if is_readable space address (load_bytes l)
    then sets rd (load_value l (bytes_of (word_at space m.memory address) address (load_bytes l))) m
    else trapped m

abbrev pub stores : Space → Store → ℕ → ℕ → State → State
stores space s address v m =
    if is_writable space address (store_bytes s)
    then record m { memory = put (address / 8) (with_bytes (m.memory (address / 8)) address (store_bytes s) v) m.memory; pc = m.pc + 4 }
    else trapped m

-- a character's code point
abbrev pub is_char : ℕ → Bool
is_char c = nat_lt c 0xD800 || (nat_le 0xE000 c && nat_lt c 0x110000)

abbrev pub writes : ℕ → State → State
writes c m = if is_char c then record m { output = m.output ++ c ∷ []; pc = m.pc + 4 } else trapped m

abbrev pub reads : List ℕ → State → State
reads [] m = sets 16 (2 ^ 64 - 1) m
reads (c ∷ cs) m = record m { registers = put_reg 16 c m.registers; input = cs; pc = m.pc + 4 }

abbrev pub fails : ℕ → State → State
fails kind m =
    if nat_le 1 kind && nat_le kind 10
    then ended (ending.Error kind (reg m.registers 10) (reg m.registers 11) (reg m.registers 12) m.pc) m
    else trapped m

-- an environment call, by its number
abbrev pub calls : ℕ → State → State
calls n m =
    if n == 1 then writes (reg m.registers 16) m else (
    if n == 2 then reads m.input m else (
    if n == 3 then ended (ending.Value (reg m.registers 10)) m else (
    if n == 4 then fails (reg m.registers 16) m else (
    if n == 5 then ended ending.Heap m else (
    if n == 6 then ended ending.Stack m else trapped m)))))

-- what an instruction does
unfoldable pub executed : Space → Instr → State → State
executed space (i.Upper u rd n) m = sets rd (upper_value u m.pc n) m
executed space (i.Jal rd half) m = links rd (plus m.pc (extended 21 (half * 2))) m
executed space (i.Jalr rd rs1 n) m = links rd (plus (reg m.registers rs1) (extended 12 n) / 2 * 2) m
executed space (i.Branch b rs1 rs2 half) m = branches (is_taken b (reg m.registers rs1) (reg m.registers rs2)) (plus m.pc (extended 13 (half * 2))) m
executed space (i.Load l rd rs1 n) m = loads space l rd (plus (reg m.registers rs1) (extended 12 n)) m
executed space (i.Store s rs1 rs2 n) m = stores space s (plus (reg m.registers rs1) (extended 12 n)) (reg m.registers rs2) m
executed space (i.Imm o rd rs1 n) m = sets rd (imm_value o (reg m.registers rs1) (extended 12 n)) m
executed space (i.Shift s rd rs1 n) m = sets rd (shift_value s (reg m.registers rs1) n) m
executed space (i.Addiw rd rs1 n) m = sets rd (word (reg m.registers rs1 + extended 12 n)) m
executed space (i.ShiftWord s rd rs1 n) m = sets rd (word_shift_value s (reg m.registers rs1) n) m
executed space (i.Op o rd rs1 rs2) m = sets rd (op_value o (reg m.registers rs1) (reg m.registers rs2)) m
executed space (i.WordOp o rd rs1 rs2) m = sets rd (word_op_value o (reg m.registers rs1) (reg m.registers rs2)) m
executed space i.Ecall m = calls (reg m.registers 17) m

abbrev pub executed_if : Space → Option Instr → State → State
executed_if space None m = trapped m
executed_if space (Some instr) m = executed space instr m

-- the instruction at an address, where there is one
abbrev pub fetched : Space → ℕ → Option Instr
fetched space pc =
    if pc % 4 == 0 && in_code space pc 4
    then decoded (code_word space (pc / 4 - 0x4000))
    else None

-- One step. A state that has ended stays.
abbrev pub step_from : Option Ending → Space → State → State
step_from None space m = executed_if space (fetched space m.pc) m
step_from (Some e) space m = m

unfoldable pub step : Space → State → State
step space m = step_from m.ending space m

-- the state after k steps
abbrev pub steps : Space → ℕ → State → State
steps space zero m = m
steps space (suc k) m = step space (steps space k m)
