-- Where the offsets lead when the machine takes them (RISC-V Instruction Set Manual, Volume I, "Control Transfer Instructions" and "Integer Register-Immediate Instructions").
use Rattle.std.specs.Prelude.{ℕ, ◌≡◌, ◌+◌, ◌*◌, ◌%◌, ◌^◌, ◌<◌, ◌≤◌, IsTrue}
use Rattle.rv_isa.specs.Operations.{plus, extended, upper_value, imm_value}
use Rattle.rv_isa.specs.declared.instr.Upper.TheVariants as upper
use Rattle.rv_isa.specs.declared.instr.ImmOp.TheVariants as imm
use Rattle.rv_asm.specs.Reach.{in_branch, in_jump, branch_half, jump_half, high_part, low_part}

-- Two places of words in code, the first of whose words stands at this address.
pub record ArePlaces (base from to : ℕ) : Type 0 where
  pub from_whole : from % 4 ≡ 0
  pub from_short : from ≤ 2 ^ 30
  pub to_whole : to % 4 ≡ 0
  pub to_short : to ≤ 2 ^ 30
  pub below : base + to < 2 ^ 64

-- A branch and a jump that reach go to the address of the place, and AUIPC with ADDI gives that address.
pub record Lands : Type 0 where
  pub branch : (base from to : ℕ) → ArePlaces base from to → IsTrue (in_branch from to) → plus (base + from) (extended 13 (branch_half from to * 2)) ≡ base + to
  pub jump : (base from to : ℕ) → ArePlaces base from to → IsTrue (in_jump from to) → plus (base + from) (extended 21 (jump_half from to * 2)) ≡ base + to
  pub address : (base from to : ℕ) → ArePlaces base from to → imm_value imm.Addi (upper_value upper.Auipc (base + from) (high_part from to)) (extended 12 (low_part from to)) ≡ base + to
