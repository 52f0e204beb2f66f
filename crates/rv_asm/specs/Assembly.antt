-- The instructions that items give, or the first fault (this project's; the instructions are RISC-V's).
use Rattle.std.specs.Prelude.{ℕ, ◌≡◌, ◌+◌, Bool, true, false, List, [], ◌∷◌, ◌++◌, Option, Some, None, Result, Ok, Err, ◌⊎◌}
use Rattle.rv_isa.specs.declared.instr.Instr.{Instr}
use Rattle.rv_isa.specs.declared.instr.Instr.TheVariants as i
use Rattle.rv_isa.specs.declared.instr.Branch.{Branch}
use Rattle.rv_isa.specs.declared.instr.Upper.TheVariants as upper
use Rattle.rv_isa.specs.declared.instr.ImmOp.TheVariants as imm
use Rattle.rv_asm.specs.declared.item.Item.{Item}
use Rattle.rv_asm.specs.declared.item.Item.TheVariants as item
use Rattle.rv_asm.specs.declared.assembled.Mark.{Mark}
use Rattle.rv_asm.specs.declared.fault.AsmFault.{AsmFault}
use Rattle.rv_asm.specs.declared.fault.AsmFault.TheVariants as fault
use Rattle.rv_asm.specs.Places.{item_size, place_in, labels_of, first_double}
use Rattle.rv_asm.specs.Reach.{in_branch, in_jump, branch_half, jump_half, high_part, low_part}

-- what is made of the place of a label, where it has one
abbrev pub at_place : {A : Type 0} → Option ℕ → ℕ → (ℕ → Result A AsmFault) → Result A AsmFault
at_place None l f = Err (fault.UnknownLabel l)
at_place (Some to) l f = f to

-- the instruction, where it reaches
abbrev pub reached : Bool → ℕ → ℕ → Instr → Result Instr AsmFault
reached true from to x = Ok x
reached false from to x = Err (fault.FarBranch from to)

-- the branch at this place to a label, among the labels' marks; the jump; and the two instructions that give an address
abbrev pub branch_to : List Mark → ℕ → Branch → ℕ → ℕ → ℕ → Result Instr AsmFault
branch_to labels at t a b l =
    at_place (place_in labels l) l (λ to. reached (in_branch at to) at to (i.Branch t a b (branch_half at to)))

abbrev pub jump_to : List Mark → ℕ → ℕ → ℕ → Result Instr AsmFault
jump_to labels at r l =
    at_place (place_in labels l) l (λ to. reached (in_jump at to) at to (i.Jal r (jump_half at to)))

abbrev pub upper_part : ℕ → ℕ → ℕ → Instr
upper_part at to r = i.Upper upper.Auipc r (high_part at to)

abbrev pub lower_part : ℕ → ℕ → ℕ → Instr
lower_part at to r = i.Imm imm.Addi r r (low_part at to)

abbrev pub address_of : List Mark → ℕ → ℕ → ℕ → Result (List Instr) AsmFault
address_of labels at r l =
    at_place (place_in labels l) l (λ to. Ok (upper_part at to r ∷ lower_part at to r ∷ []))

-- one instruction alone
abbrev pub alone : Result Instr AsmFault → Result (List Instr) AsmFault
alone (Ok x) = Ok (x ∷ [])
alone (Err e) = Err e

-- the instructions of the item at this place
abbrev pub instrs_at : List Mark → ℕ → Item → Result (List Instr) AsmFault
instrs_at labels at (item.Plain x) = Ok (x ∷ [])
instrs_at labels at (item.Label l) = Ok []
instrs_at labels at (item.BranchTo t a b l) = alone (branch_to labels at t a b l)
instrs_at labels at (item.JumpTo r l) = alone (jump_to labels at r l)
instrs_at labels at (item.AddressOf r l) = address_of labels at r l
instrs_at labels at (item.Site n) = Ok []

-- one list after another, or the first fault
abbrev pub followed_by : Result (List Instr) AsmFault → Result (List Instr) AsmFault → Result (List Instr) AsmFault
followed_by (Err e) r = Err e
followed_by (Ok xs) (Err e) = Err e
followed_by (Ok xs) (Ok ys) = Ok (xs ++ ys)

-- the instructions of the items in their order, the first item at this place
abbrev pub instrs_from : List Mark → ℕ → List Item → Result (List Instr) AsmFault
instrs_from labels at [] = Ok []
instrs_from labels at (x ∷ xs) =
    followed_by (instrs_at labels at x) (instrs_from labels (at + item_size x) xs)

-- a label that stands twice goes before other faults
abbrev pub unless_double : Option ℕ → Result (List Instr) AsmFault → Result (List Instr) AsmFault
unless_double (Some l) r = Err (fault.DoubleLabel l)
unless_double None r = r

-- the instructions of the items with each label at its place, or the first fault
abbrev pub instrs_of : List Item → Result (List Instr) AsmFault
instrs_of items = unless_double (first_double (labels_of items)) (instrs_from (labels_of items) 0 items)

-- memory ran out, or this is the first fault
abbrev pub IsFault : {A : Type 0} → AsmFault → Result A AsmFault → Type 0
IsFault e r = (e ≡ fault.Memory) ⊎ (r ≡ Err e)
