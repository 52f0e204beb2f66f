-- The table of instruction words, both ways: RISC-V Instruction Set Manual, Volume I, "RV32/64G Instruction Set Listings".
use Rattle.std.specs.Prelude.{ℕ, ◌+◌, ◌*◌, ◌/◌, ◌%◌, ◌^◌, Bool, ◌==◌, ◌&&◌, ◌||◌, Option, Some, None, List, [], ◌∷◌, if◌then◌else◌}
use Rattle.std.specs.List.{find}
use Rattle.std.specs.Option.{option_map}
use Rattle.rv_isa.specs.declared.fields.Fields.{Fields}
use Rattle.rv_isa.specs.Word.{r_format, i_format, s_format, b_format, u_format, j_format, word_of, fields_of, i_imm, s_imm, b_half, u_imm, j_half}
use Rattle.rv_isa.specs.declared.instr.Instr.{Instr}
use Rattle.rv_isa.specs.declared.instr.Instr.TheVariants as i
use Rattle.rv_isa.specs.declared.instr.Upper.{Upper}
use Rattle.rv_isa.specs.declared.instr.Upper.TheVariants as upper
use Rattle.rv_isa.specs.declared.instr.Branch.{Branch}
use Rattle.rv_isa.specs.declared.instr.Branch.TheVariants as branch
use Rattle.rv_isa.specs.declared.instr.Load.{Load}
use Rattle.rv_isa.specs.declared.instr.Load.TheVariants as load
use Rattle.rv_isa.specs.declared.instr.Store.{Store}
use Rattle.rv_isa.specs.declared.instr.Store.TheVariants as store
use Rattle.rv_isa.specs.declared.instr.ImmOp.{ImmOp}
use Rattle.rv_isa.specs.declared.instr.ImmOp.TheVariants as imm
use Rattle.rv_isa.specs.declared.instr.Shift.{Shift}
use Rattle.rv_isa.specs.declared.instr.Shift.TheVariants as shift
use Rattle.rv_isa.specs.declared.instr.RegOp.{RegOp}
use Rattle.rv_isa.specs.declared.instr.RegOp.TheVariants as op
use Rattle.rv_isa.specs.declared.instr.WordOp.{WordOp}
use Rattle.rv_isa.specs.declared.instr.WordOp.TheVariants as wop

abbrev pub upper_opcode : Upper → ℕ
upper_opcode upper.Lui = 0b0110111
upper_opcode upper.Auipc = 0b0010111

-- funct3 of each operation
abbrev pub branch_code : Branch → ℕ
branch_code branch.Beq = 0
branch_code branch.Bne = 1
branch_code branch.Blt = 4
branch_code branch.Bge = 5
branch_code branch.Bltu = 6
branch_code branch.Bgeu = 7

abbrev pub load_code : Load → ℕ
load_code load.Lb = 0
load_code load.Lh = 1
load_code load.Lw = 2
load_code load.Ld = 3
load_code load.Lbu = 4
load_code load.Lhu = 5
load_code load.Lwu = 6

abbrev pub store_code : Store → ℕ
store_code store.Sb = 0
store_code store.Sh = 1
store_code store.Sw = 2
store_code store.Sd = 3

abbrev pub imm_code : ImmOp → ℕ
imm_code imm.Addi = 0
imm_code imm.Slti = 2
imm_code imm.Sltiu = 3
imm_code imm.Xori = 4
imm_code imm.Ori = 6
imm_code imm.Andi = 7

-- funct3, and funct7
abbrev pub shift_code : Shift → ℕ × ℕ
shift_code shift.Sll = (1, 0b0000000)
shift_code shift.Srl = (5, 0b0000000)
shift_code shift.Sra = (5, 0b0100000)

abbrev pub op_code : RegOp → ℕ × ℕ
op_code op.Add = (0, 0b0000000)
op_code op.Sll = (1, 0b0000000)
op_code op.Slt = (2, 0b0000000)
op_code op.Sltu = (3, 0b0000000)
op_code op.Xor = (4, 0b0000000)
op_code op.Srl = (5, 0b0000000)
op_code op.Or = (6, 0b0000000)
op_code op.And = (7, 0b0000000)
op_code op.Sub = (0, 0b0100000)
op_code op.Sra = (5, 0b0100000)
op_code op.Mul = (0, 0b0000001)
op_code op.Mulh = (1, 0b0000001)
op_code op.Mulhsu = (2, 0b0000001)
op_code op.Mulhu = (3, 0b0000001)
op_code op.Div = (4, 0b0000001)
op_code op.Divu = (5, 0b0000001)
op_code op.Rem = (6, 0b0000001)
op_code op.Remu = (7, 0b0000001)

abbrev pub word_op_code : WordOp → ℕ × ℕ
word_op_code wop.Addw = (0, 0b0000000)
word_op_code wop.Sllw = (1, 0b0000000)
word_op_code wop.Srlw = (5, 0b0000000)
word_op_code wop.Subw = (0, 0b0100000)
word_op_code wop.Sraw = (5, 0b0100000)
word_op_code wop.Mulw = (0, 0b0000001)
word_op_code wop.Divw = (4, 0b0000001)
word_op_code wop.Divuw = (5, 0b0000001)
word_op_code wop.Remw = (6, 0b0000001)
word_op_code wop.Remuw = (7, 0b0000001)

-- the row of the table
abbrev pub fields : Instr → Fields
fields (i.Upper u rd n) = u_format (upper_opcode u) rd n
fields (i.Jal rd half) = j_format 0b1101111 rd half
fields (i.Jalr rd rs1 n) = i_format 0b1100111 rd 0 rs1 n
fields (i.Branch b rs1 rs2 half) = b_format 0b1100011 (branch_code b) rs1 rs2 half
fields (i.Load l rd rs1 n) = i_format 0b0000011 rd (load_code l) rs1 n
fields (i.Store s rs1 rs2 n) = s_format 0b0100011 (store_code s) rs1 rs2 n
fields (i.Imm o rd rs1 n) = i_format 0b0010011 rd (imm_code o) rs1 n
-- six bits of shift, the highest in funct7
fields (i.Shift s rd rs1 n) = r_format 0b0010011 rd ((shift_code s).0) rs1 (n % 2 ^ 5) ((shift_code s).1 + n / 2 ^ 5)
fields (i.Addiw rd rs1 n) = i_format 0b0011011 rd 0 rs1 n
fields (i.ShiftWord s rd rs1 n) = r_format 0b0011011 rd ((shift_code s).0) rs1 n ((shift_code s).1)
fields (i.Op o rd rs1 rs2) = r_format 0b0110011 rd ((op_code o).0) rs1 rs2 ((op_code o).1)
fields (i.WordOp o rd rs1 rs2) = r_format 0b0111011 rd ((word_op_code o).0) rs1 rs2 ((word_op_code o).1)
fields i.Ecall = r_format 0b1110011 0 0 0 0 0

abbrev pub encoding : Instr → ℕ
encoding i = word_of (fields i)

-- The operations.

abbrev pub branches : List Branch
branches = branch.Beq ∷ branch.Bne ∷ branch.Blt ∷ branch.Bge ∷ branch.Bltu ∷ branch.Bgeu ∷ []

abbrev pub loads : List Load
loads = load.Lb ∷ load.Lh ∷ load.Lw ∷ load.Ld ∷ load.Lbu ∷ load.Lhu ∷ load.Lwu ∷ []

abbrev pub stores : List Store
stores = store.Sb ∷ store.Sh ∷ store.Sw ∷ store.Sd ∷ []

abbrev pub imms : List ImmOp
imms = imm.Addi ∷ imm.Slti ∷ imm.Sltiu ∷ imm.Xori ∷ imm.Ori ∷ imm.Andi ∷ []

abbrev pub shifts : List Shift
shifts = shift.Sll ∷ shift.Srl ∷ shift.Sra ∷ []

abbrev pub ops : List RegOp
ops = op.Add ∷ op.Sll ∷ op.Slt ∷ op.Sltu ∷ op.Xor ∷ op.Srl ∷ op.Or ∷ op.And ∷ op.Sub ∷ op.Sra ∷ op.Mul ∷ op.Mulh ∷ op.Mulhsu ∷ op.Mulhu ∷ op.Div ∷ op.Divu ∷ op.Rem ∷ op.Remu ∷ []

abbrev pub word_ops : List WordOp
word_ops = wop.Addw ∷ wop.Sllw ∷ wop.Srlw ∷ wop.Subw ∷ wop.Sraw ∷ wop.Mulw ∷ wop.Divw ∷ wop.Divuw ∷ wop.Remw ∷ wop.Remuw ∷ []

-- The operation whose code stands in a word.

abbrev pub branch_of : ℕ → Option Branch
branch_of n = find (λ b. branch_code b == n) branches

abbrev pub load_of : ℕ → Option Load
load_of n = find (λ l. load_code l == n) loads

abbrev pub store_of : ℕ → Option Store
store_of n = find (λ s. store_code s == n) stores

abbrev pub imm_of : ℕ → Option ImmOp
imm_of n = find (λ o. imm_code o == n) imms

abbrev pub is_code : ℕ × ℕ → ℕ → ℕ → Bool
is_code code funct3 funct7 = (code.0 == funct3) && (code.1 == funct7)

abbrev pub shift_of : ℕ → ℕ → Option Shift
shift_of funct3 funct7 = find (λ s. is_code (shift_code s) funct3 funct7) shifts

abbrev pub op_of : ℕ → ℕ → Option RegOp
op_of funct3 funct7 = find (λ o. is_code (op_code o) funct3 funct7)
    ops

abbrev pub word_op_of : ℕ → ℕ → Option WordOp
word_op_of funct3 funct7 = find (λ o. is_code (word_op_code o) funct3 funct7)
    word_ops

-- a shift by six bits, or another operation with an immediate
unfoldable pub imm_instr_of : Fields → Option Instr
imm_instr_of f =
    if (f.funct3 == 1) || (f.funct3 == 5)
    then option_map (λ s. i.Shift s f.rd f.rs1 (f.funct7 % 2 * 2 ^ 5 + f.rs2)) (shift_of f.funct3 (f.funct7 / 2 * 2))
    else option_map (λ o. i.Imm o f.rd f.rs1 (i_imm f)) (imm_of f.funct3)

unfoldable pub word_imm_instr_of : Fields → Option Instr
word_imm_instr_of f =
    if f.funct3 == 0
    then Some (i.Addiw f.rd f.rs1 (i_imm f))
    else option_map (λ s. i.ShiftWord s f.rd f.rs1 f.rs2) (shift_of f.funct3 f.funct7)

abbrev pub jalr_of : Fields → Option Instr
jalr_of f = if f.funct3 == 0 then Some (i.Jalr f.rd f.rs1 (i_imm f)) else None

abbrev pub system_instr_of : Fields → Option Instr
system_instr_of f =
    if (f.rd == 0) && ((f.funct3 == 0) && ((f.rs1 == 0) && ((f.rs2 == 0) && (f.funct7 == 0))))
    then Some i.Ecall
    else None

-- what stands in the fields of a word, by opcode
unfoldable pub instr_of : Fields → Option Instr
instr_of f =
    if f.opcode == 0b0110111 then Some (i.Upper upper.Lui f.rd (u_imm f)) else (
    if f.opcode == 0b0010111 then Some (i.Upper upper.Auipc f.rd (u_imm f)) else (
    if f.opcode == 0b1101111 then Some (i.Jal f.rd (j_half f)) else (
    if f.opcode == 0b1100111 then jalr_of f else (
    if f.opcode == 0b1100011 then option_map (λ b. i.Branch b f.rs1 f.rs2 (b_half f)) (branch_of f.funct3) else (
    if f.opcode == 0b0000011 then option_map (λ l. i.Load l f.rd f.rs1 (i_imm f)) (load_of f.funct3) else (
    if f.opcode == 0b0100011 then option_map (λ s. i.Store s f.rs1 f.rs2 (s_imm f)) (store_of f.funct3) else (
    if f.opcode == 0b0010011 then imm_instr_of f else (
    if f.opcode == 0b0011011 then word_imm_instr_of f else (
    if f.opcode == 0b0110011 then option_map (λ o. i.Op o f.rd f.rs1 f.rs2) (op_of f.funct3 f.funct7) else (
    if f.opcode == 0b0111011 then option_map (λ o. i.WordOp o f.rd f.rs1 f.rs2) (word_op_of f.funct3 f.funct7) else (
    if f.opcode == 0b1110011 then system_instr_of f else None)))))))))))

unfoldable pub decoded : ℕ → Option Instr
decoded w = instr_of (fields_of w)
