-- The instructions that each kind of form becomes. A value stands in x10; x19 holds NIL; x5, x16 and x17 are free.
use Rattle.std.specs.Prelude.{ℕ, ◌+◌, ◌-◌, ◌*◌, ◌/◌, ◌%◌, ◌^◌, List, [], ◌∷◌, ◌++◌, length, Some, None}
use Rattle.lisp_base.specs.declared.values.Place.{Place}
use Rattle.rv_isa.specs.declared.instr.Instr.{Instr}
use Rattle.rv_isa.specs.declared.instr.Instr.TheVariants as i
use Rattle.rv_isa.specs.declared.instr.Upper.TheVariants as upper
use Rattle.rv_isa.specs.declared.instr.Branch.TheVariants as branch
use Rattle.rv_isa.specs.declared.instr.ImmOp.TheVariants as imm
use Rattle.rv_isa.specs.declared.instr.Shift.TheVariants as shift
use Rattle.compiler.specs.declared.slot.Slot.{Slot}

-- an instruction that signals no error, and the call that signals the error of the form at a place
abbrev pub plain : Instr → Slot
plain instr = record { instr = instr; site = None }

abbrev pub signals : Place → Slot
signals p = record { instr = i.Ecall; site = Some p }

-- register rd becomes register rs plus a small number
abbrev pub add : ℕ → ℕ → ℕ → Slot
add rd rs n = plain (i.Imm imm.Addi rd rs n)

-- NIL
abbrev pub nil_slots : List Slot
nil_slots = add 10 19 0 ∷ []

-- a word below 2^31, in two parts of which the lower is taken with its sign
abbrev pub upper_part : ℕ → ℕ
upper_part w = (w + 2048) / 4096

abbrev pub lower_part : ℕ → ℕ
lower_part w = w % 4096

abbrev pub word_slots : ℕ → List Slot
word_slots w = plain (i.Upper upper.Lui 5 (upper_part w)) ∷ add 10 5 (lower_part w) ∷ []

-- a character of the input, or NIL at its end, which the call tells by a word of ones
abbrev pub read_slots : List Slot
read_slots =
    add 17 0 2 ∷ plain i.Ecall ∷ add 5 0 (2 ^ 12 - 1) ∷ plain (i.Branch branch.Beq 16 5 8) ∷
    plain (i.Shift shift.Sll 16 16 8) ∷ add 10 16 2 ∷ plain (i.Jal 0 4) ∷ add 10 19 0 ∷ []

-- on only with a character: else TYPE-ERROR of the form at this place
abbrev pub check_slots : Place → List Slot
check_slots p =
    plain (i.Imm imm.Andi 5 10 255) ∷ add 16 0 2 ∷ plain (i.Branch branch.Beq 5 16 8) ∷
    add 17 0 4 ∷ add 16 0 1 ∷ signals p ∷ []

-- the character goes to the output
abbrev pub write_slots : List Slot
write_slots = plain (i.Shift shift.Srl 16 10 8) ∷ add 17 0 1 ∷ plain i.Ecall ∷ []

-- a jump over n instructions
abbrev pub skip : ℕ → Slot
skip n = plain (i.Jal 0 (2 * (n + 1)))

-- what stands between a test and its two arms, the first of n instructions: on with the first unless the value is NIL
abbrev pub test_slots : ℕ → List Slot
test_slots n = plain (i.Branch branch.Bne 10 19 4) ∷ skip (n + 1) ∷ []

abbrev pub if_slots : List Slot → List Slot → List Slot → List Slot
if_slots a b c = a ++ (test_slots (length b) ++ (b ++ (skip (length c) ∷ c)))

-- the run ends with the value
abbrev pub end_slots : List Slot
end_slots = add 17 0 3 ∷ plain i.Ecall ∷ []
