-- The text of code: a line for each word, with the address, the word, and the instruction in the assembly language of the RISC-V Instruction Set Manual, Volume I.
use Rattle.std.specs.Prelude.{ℕ, ℤ, pos, ◌+◌, ◌*◌, List, [], ◌∷◌, ◌++◌, codes, slice_index, Option, Some, None}
use Rattle.std.specs.Fmt.{decimal, signed_decimal}
use Rattle.rv_isa.specs.declared.instr.Instr.{Instr}
use Rattle.rv_isa.specs.declared.instr.Instr.TheVariants as i
use Rattle.rv_isa.specs.Encoding.{decoded}
use Rattle.rv_isa.specs.Start.{words32}
use Rattle.listing.specs.Numbers.{hexadecimal, signed_of}
use Rattle.listing.specs.Names.{upper_name, branch_name, load_name, store_name, imm_name, shift_name, word_shift_name, op_name, word_op_name}

abbrev pub register_text : ℕ → List ℕ
register_text r = codes "x" ++ decimal r

-- a name and its operands: three registers; two and a number; a register and a number
abbrev pub with_three : List ℕ → ℕ → ℕ → ℕ → List ℕ
with_three name a b c =
    name ++ codes " " ++ register_text a ++ codes ", " ++ register_text b ++ codes ", " ++ register_text c

abbrev pub with_two : List ℕ → ℕ → ℕ → ℤ → List ℕ
with_two name a b n =
    name ++ codes " " ++ register_text a ++ codes ", " ++ register_text b ++ codes ", " ++ signed_decimal n

abbrev pub with_one : List ℕ → ℕ → ℤ → List ℕ
with_one name a n = name ++ codes " " ++ register_text a ++ codes ", " ++ signed_decimal n

-- a register and a place in memory, so far from what another register holds
abbrev pub with_place : List ℕ → ℕ → ℤ → ℕ → List ℕ
with_place name a n base =
    name ++ codes " " ++ register_text a ++ codes ", " ++ signed_decimal n ++ codes "(" ++ register_text base ++ codes ")"

-- The instruction. Immediates and offsets have a sign; the offset of a branch or jump is twice what its field holds.
abbrev pub instr_text : Instr → List ℕ
instr_text (i.Upper u rd n) = with_one (upper_name u) rd (pos n)
instr_text (i.Jal rd half) = with_one (codes "jal") rd (signed_of 21 (half * 2))
instr_text (i.Jalr rd rs1 n) = with_two (codes "jalr") rd rs1 (signed_of 12 n)
instr_text (i.Branch b rs1 rs2 half) = with_two (branch_name b) rs1 rs2 (signed_of 13 (half * 2))
instr_text (i.Load l rd rs1 n) = with_place (load_name l) rd (signed_of 12 n) rs1
instr_text (i.Store s rs1 rs2 n) = with_place (store_name s) rs2 (signed_of 12 n) rs1
instr_text (i.Imm o rd rs1 n) = with_two (imm_name o) rd rs1 (signed_of 12 n)
instr_text (i.Shift s rd rs1 n) = with_two (shift_name s) rd rs1 (pos n)
instr_text (i.Addiw rd rs1 n) = with_two (codes "addiw") rd rs1 (signed_of 12 n)
instr_text (i.ShiftWord s rd rs1 n) = with_two (word_shift_name s) rd rs1 (pos n)
instr_text (i.Op o rd rs1 rs2) = with_three (op_name o) rd rs1 rs2
instr_text (i.WordOp o rd rs1 rs2) = with_three (word_op_name o) rd rs1 rs2
instr_text i.Ecall = codes "ecall"

-- what a word says, where it is an instruction
abbrev pub word_text : Option Instr → List ℕ
word_text (Some x) = instr_text x
word_text None = codes "unknown"

-- The line of a word at an address. Of the address it has the last eight digits.
unfoldable pub line_of : ℕ → ℕ → List ℕ
line_of address word =
    hexadecimal 8 address ++ codes ": " ++ hexadecimal 8 word ++ codes " " ++ word_text (decoded word) ++ codes "\n"

-- the four bytes at a place
abbrev pub bytes_at : List ℕ → ℕ → List ℕ
bytes_at code at = slice_index code at ∷ slice_index code (at + 1) ∷ slice_index code (at + 2) ∷ slice_index code (at + 3) ∷ []

-- the lines of words, the first at this address
abbrev pub lines_from : ℕ → List ℕ → List ℕ
lines_from address [] = []
lines_from address (w ∷ ws) = line_of address w ++ lines_from (address + 4) ws

-- the lines of code, which begins at 0x00010000
abbrev pub listing_of : List ℕ → List ℕ
listing_of code = lines_from 0x00010000 (words32 code)
