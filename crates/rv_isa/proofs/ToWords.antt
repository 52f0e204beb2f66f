-- The fields of an instruction are read as that instruction.
use Rattle.std.proofs.Common.{◌≡◌, ℕ, ◌+◌, ◌*◌, ◌/◌, ◌%◌, ◌^◌, ◌<◌, refl, ap, ◌∙◌, arith, Option, Some}
use Rattle.std.specs.Option.{option_map}
use Rattle.rv_isa.specs.declared.instr.Instr.{Instr}
use Rattle.rv_isa.specs.declared.instr.Instr.TheVariants as i
use Rattle.rv_isa.specs.declared.instr.Upper.TheVariants as upper
use Rattle.rv_isa.specs.declared.instr.Branch.{Branch}
use Rattle.rv_isa.specs.declared.instr.Branch.TheVariants as branch
use Rattle.rv_isa.specs.declared.instr.Load.{Load}
use Rattle.rv_isa.specs.declared.instr.Load.TheVariants as load
use Rattle.rv_isa.specs.declared.instr.Store.{Store}
use Rattle.rv_isa.specs.declared.instr.Store.TheVariants as store
use Rattle.rv_isa.specs.declared.instr.ImmOp.{ImmOp}
use Rattle.rv_isa.specs.declared.instr.ImmOp.TheVariants as imm
use Rattle.rv_isa.specs.declared.instr.Shift.{Shift}
use Rattle.rv_isa.specs.declared.instr.Shift.TheVariants as shift
use Rattle.rv_isa.specs.declared.instr.RegOp.{RegOp}
use Rattle.rv_isa.specs.declared.instr.RegOp.TheVariants as op
use Rattle.rv_isa.specs.declared.instr.WordOp.{WordOp}
use Rattle.rv_isa.specs.declared.instr.WordOp.TheVariants as wop
use Rattle.rv_isa.specs.Word.{AreFields, jump_bits, jump_half}
use Rattle.rv_isa.specs.Encoding.{branch_code, load_code, store_code, imm_code, shift_code, op_code, word_op_code, branch_of, load_of, store_of, shift_of, op_of, word_op_of, fields, imm_instr_of, word_imm_instr_of, instr_of}
use Rattle.rv_isa.specs.Valid.{IsInstr}

-- each code is that of its operation, and within its field

branch_of-code : (b : Branch) → branch_of (branch_code b) ≡ Some b
branch_of-code branch.Beq = refl
branch_of-code branch.Bne = refl
branch_of-code branch.Blt = refl
branch_of-code branch.Bge = refl
branch_of-code branch.Bltu = refl
branch_of-code branch.Bgeu = refl

branch_code-fits : (b : Branch) → branch_code b < 2 ^ 3
branch_code-fits branch.Beq = omega arith
branch_code-fits branch.Bne = omega arith
branch_code-fits branch.Blt = omega arith
branch_code-fits branch.Bge = omega arith
branch_code-fits branch.Bltu = omega arith
branch_code-fits branch.Bgeu = omega arith

load_of-code : (l : Load) → load_of (load_code l) ≡ Some l
load_of-code load.Lb = refl
load_of-code load.Lh = refl
load_of-code load.Lw = refl
load_of-code load.Ld = refl
load_of-code load.Lbu = refl
load_of-code load.Lhu = refl
load_of-code load.Lwu = refl

load_code-fits : (l : Load) → load_code l < 2 ^ 3
load_code-fits load.Lb = omega arith
load_code-fits load.Lh = omega arith
load_code-fits load.Lw = omega arith
load_code-fits load.Ld = omega arith
load_code-fits load.Lbu = omega arith
load_code-fits load.Lhu = omega arith
load_code-fits load.Lwu = omega arith

store_of-code : (s : Store) → store_of (store_code s) ≡ Some s
store_of-code store.Sb = refl
store_of-code store.Sh = refl
store_of-code store.Sw = refl
store_of-code store.Sd = refl

store_code-fits : (s : Store) → store_code s < 2 ^ 3
store_code-fits store.Sb = omega arith
store_code-fits store.Sh = omega arith
store_code-fits store.Sw = omega arith
store_code-fits store.Sd = omega arith

imm_code-fits : (o : ImmOp) → imm_code o < 2 ^ 3
imm_code-fits imm.Addi = omega arith
imm_code-fits imm.Slti = omega arith
imm_code-fits imm.Sltiu = omega arith
imm_code-fits imm.Xori = omega arith
imm_code-fits imm.Ori = omega arith
imm_code-fits imm.Andi = omega arith

shift_of-code : (s : Shift) → shift_of ((shift_code s).0) ((shift_code s).1) ≡ Some s
shift_of-code shift.Sll = refl
shift_of-code shift.Srl = refl
shift_of-code shift.Sra = refl

record Fits (code : ℕ × ℕ) : Type 0 where
  low : code.0 < 2 ^ 3
  high : code.1 < 2 ^ 6

shift_code-fits : (s : Shift) → Fits (shift_code s)
shift_code-fits shift.Sll = record { low = omega arith; high = omega arith }
shift_code-fits shift.Srl = record { low = omega arith; high = omega arith }
shift_code-fits shift.Sra = record { low = omega arith; high = omega arith }

op_of-code : (o : RegOp) → op_of ((op_code o).0) ((op_code o).1) ≡ Some o
op_of-code op.Add = refl
op_of-code op.Sll = refl
op_of-code op.Slt = refl
op_of-code op.Sltu = refl
op_of-code op.Xor = refl
op_of-code op.Srl = refl
op_of-code op.Or = refl
op_of-code op.And = refl
op_of-code op.Sub = refl
op_of-code op.Sra = refl
op_of-code op.Mul = refl
op_of-code op.Mulh = refl
op_of-code op.Mulhsu = refl
op_of-code op.Mulhu = refl
op_of-code op.Div = refl
op_of-code op.Divu = refl
op_of-code op.Rem = refl
op_of-code op.Remu = refl

op_code-fits : (o : RegOp) → Fits (op_code o)
op_code-fits op.Add = record { low = omega arith; high = omega arith }
op_code-fits op.Sll = record { low = omega arith; high = omega arith }
op_code-fits op.Slt = record { low = omega arith; high = omega arith }
op_code-fits op.Sltu = record { low = omega arith; high = omega arith }
op_code-fits op.Xor = record { low = omega arith; high = omega arith }
op_code-fits op.Srl = record { low = omega arith; high = omega arith }
op_code-fits op.Or = record { low = omega arith; high = omega arith }
op_code-fits op.And = record { low = omega arith; high = omega arith }
op_code-fits op.Sub = record { low = omega arith; high = omega arith }
op_code-fits op.Sra = record { low = omega arith; high = omega arith }
op_code-fits op.Mul = record { low = omega arith; high = omega arith }
op_code-fits op.Mulh = record { low = omega arith; high = omega arith }
op_code-fits op.Mulhsu = record { low = omega arith; high = omega arith }
op_code-fits op.Mulhu = record { low = omega arith; high = omega arith }
op_code-fits op.Div = record { low = omega arith; high = omega arith }
op_code-fits op.Divu = record { low = omega arith; high = omega arith }
op_code-fits op.Rem = record { low = omega arith; high = omega arith }
op_code-fits op.Remu = record { low = omega arith; high = omega arith }

word_op_of-code : (o : WordOp) → word_op_of ((word_op_code o).0) ((word_op_code o).1) ≡ Some o
word_op_of-code wop.Addw = refl
word_op_of-code wop.Sllw = refl
word_op_of-code wop.Srlw = refl
word_op_of-code wop.Subw = refl
word_op_of-code wop.Sraw = refl
word_op_of-code wop.Mulw = refl
word_op_of-code wop.Divw = refl
word_op_of-code wop.Divuw = refl
word_op_of-code wop.Remw = refl
word_op_of-code wop.Remuw = refl

word_op_code-fits : (o : WordOp) → Fits (word_op_code o)
word_op_code-fits wop.Addw = record { low = omega arith; high = omega arith }
word_op_code-fits wop.Sllw = record { low = omega arith; high = omega arith }
word_op_code-fits wop.Srlw = record { low = omega arith; high = omega arith }
word_op_code-fits wop.Subw = record { low = omega arith; high = omega arith }
word_op_code-fits wop.Sraw = record { low = omega arith; high = omega arith }
word_op_code-fits wop.Mulw = record { low = omega arith; high = omega arith }
word_op_code-fits wop.Divw = record { low = omega arith; high = omega arith }
word_op_code-fits wop.Divuw = record { low = omega arith; high = omega arith }
word_op_code-fits wop.Remw = record { low = omega arith; high = omega arith }
word_op_code-fits wop.Remuw = record { low = omega arith; high = omega arith }

-- the fields of an instruction are within their bits

jump_bits-fits : (half : ℕ) → half < 2 ^ 20 → jump_bits half < 2 ^ 20
jump_bits-fits half h = omega arith

pub are_fields : (x : Instr) → IsInstr x → AreFields (fields x)
are_fields (i.Upper upper.Lui rd n) h = record { opcode = omega arith; rd = omega arith; funct3 = omega arith; rs1 = omega arith; rs2 = omega arith; funct7 = omega arith }
are_fields (i.Upper upper.Auipc rd n) h = record { opcode = omega arith; rd = omega arith; funct3 = omega arith; rs1 = omega arith; rs2 = omega arith; funct7 = omega arith }
are_fields (i.Jal rd half) h =
    let b = jump_bits-fits half h.1 in
    record { opcode = omega arith; rd = omega arith; funct3 = omega arith; rs1 = omega arith; rs2 = omega arith; funct7 = omega arith }
are_fields (i.Jalr rd rs1 n) h = record { opcode = omega arith; rd = omega arith; funct3 = omega arith; rs1 = omega arith; rs2 = omega arith; funct7 = omega arith }
are_fields (i.Branch b rs1 rs2 half) h = record { opcode = omega arith; rd = omega arith; funct3 = branch_code-fits b; rs1 = omega arith; rs2 = omega arith; funct7 = omega arith }
are_fields (i.Load l rd rs1 n) h = record { opcode = omega arith; rd = omega arith; funct3 = load_code-fits l; rs1 = omega arith; rs2 = omega arith; funct7 = omega arith }
are_fields (i.Store s rs1 rs2 n) h = record { opcode = omega arith; rd = omega arith; funct3 = store_code-fits s; rs1 = omega arith; rs2 = omega arith; funct7 = omega arith }
are_fields (i.Imm o rd rs1 n) h = record { opcode = omega arith; rd = omega arith; funct3 = imm_code-fits o; rs1 = omega arith; rs2 = omega arith; funct7 = omega arith }
are_fields (i.Shift s rd rs1 n) h = record { opcode = omega arith; rd = omega arith; funct3 = (shift_code-fits s).low; rs1 = omega arith; rs2 = omega arith; funct7 = omega (arith, (shift_code-fits s).high) }
are_fields (i.Addiw rd rs1 n) h = record { opcode = omega arith; rd = omega arith; funct3 = omega arith; rs1 = omega arith; rs2 = omega arith; funct7 = omega arith }
are_fields (i.ShiftWord s rd rs1 n) h = record { opcode = omega arith; rd = omega arith; funct3 = (shift_code-fits s).low; rs1 = omega arith; rs2 = omega arith; funct7 = omega (arith, (shift_code-fits s).high) }
are_fields (i.Op o rd rs1 rs2) h = record { opcode = omega arith; rd = omega arith; funct3 = (op_code-fits o).low; rs1 = omega arith; rs2 = omega arith; funct7 = omega (arith, (op_code-fits o).high) }
are_fields (i.WordOp o rd rs1 rs2) h = record { opcode = omega arith; rd = omega arith; funct3 = (word_op_code-fits o).low; rs1 = omega arith; rs2 = omega arith; funct7 = omega (arith, (word_op_code-fits o).high) }
are_fields i.Ecall h = record { opcode = omega arith; rd = omega arith; funct3 = omega arith; rs1 = omega arith; rs2 = omega arith; funct7 = omega arith }

-- the immediates are read back

i_back : (n : ℕ) → n / 2 ^ 5 * 2 ^ 5 + n % 2 ^ 5 ≡ n
i_back n = omega arith

b_back : (half : ℕ) → half < 2 ^ 12 → (((half / 2 ^ 11 * 2 ^ 6 + half / 2 ^ 4 % 2 ^ 6) / 2 ^ 6 * 2 + (half % 2 ^ 4 * 2 + half / 2 ^ 10 % 2) % 2) * 2 ^ 6 + (half / 2 ^ 11 * 2 ^ 6 + half / 2 ^ 4 % 2 ^ 6) % 2 ^ 6) * 2 ^ 4 + (half % 2 ^ 4 * 2 + half / 2 ^ 10 % 2) / 2 ≡ half
b_back half h = omega arith

u_back : (n : ℕ) → ((n / 2 ^ 13 * 2 ^ 5 + n / 2 ^ 8 % 2 ^ 5) * 2 ^ 5 + n / 2 ^ 3 % 2 ^ 5) * 2 ^ 3 + n % 2 ^ 3 ≡ n
u_back n = omega arith

j_back : (half : ℕ) → half < 2 ^ 20 → jump_half (jump_bits half) ≡ half
j_back half h = omega arith

imm_back : (o : ImmOp) (rd rs1 n : ℕ) → imm_instr_of (fields (i.Imm o rd rs1 n)) ≡ Some (i.Imm o rd rs1 n)
unfolding imm_instr_of
imm_back imm.Addi rd rs1 n = ap (λ (m : ℕ). let r : Option Instr = Some (i.Imm imm.Addi rd rs1 m) in r) (i_back n)
imm_back imm.Slti rd rs1 n = ap (λ (m : ℕ). let r : Option Instr = Some (i.Imm imm.Slti rd rs1 m) in r) (i_back n)
imm_back imm.Sltiu rd rs1 n = ap (λ (m : ℕ). let r : Option Instr = Some (i.Imm imm.Sltiu rd rs1 m) in r) (i_back n)
imm_back imm.Xori rd rs1 n = ap (λ (m : ℕ). let r : Option Instr = Some (i.Imm imm.Xori rd rs1 m) in r) (i_back n)
imm_back imm.Ori rd rs1 n = ap (λ (m : ℕ). let r : Option Instr = Some (i.Imm imm.Ori rd rs1 m) in r) (i_back n)
imm_back imm.Andi rd rs1 n = ap (λ (m : ℕ). let r : Option Instr = Some (i.Imm imm.Andi rd rs1 m) in r) (i_back n)

amount_back : (code n : ℕ) → code % 2 ≡ 0 → n < 2 ^ 6 → (code + n / 2 ^ 5) % 2 * 2 ^ 5 + n % 2 ^ 5 ≡ n
amount_back code n e h = omega arith

high_back : (code n : ℕ) → code % 2 ≡ 0 → n < 2 ^ 6 → (code + n / 2 ^ 5) / 2 * 2 ≡ code
high_back code n e h = omega arith

shift_read : (funct3 funct7 amount : ℕ) → ℕ → ℕ → Option Instr
shift_read funct3 funct7 amount rd rs1 = option_map (λ s. i.Shift s rd rs1 amount) (shift_of funct3 funct7)

shift_back : (s : Shift) (rd rs1 n : ℕ) → n < 2 ^ 6 → imm_instr_of (fields (i.Shift s rd rs1 n)) ≡ Some (i.Shift s rd rs1 n)
unfolding imm_instr_of shift_read
shift_back shift.Sll rd rs1 n h =
    ap (λ (m : ℕ). shift_read 1 m ((0b0000000 + n / 2 ^ 5) % 2 * 2 ^ 5 + n % 2 ^ 5) rd rs1) (high_back 0b0000000 n refl h)
    ∙ ap (λ (m : ℕ). shift_read 1 0b0000000 m rd rs1) (amount_back 0b0000000 n refl h)
shift_back shift.Srl rd rs1 n h =
    ap (λ (m : ℕ). shift_read 5 m ((0b0000000 + n / 2 ^ 5) % 2 * 2 ^ 5 + n % 2 ^ 5) rd rs1) (high_back 0b0000000 n refl h)
    ∙ ap (λ (m : ℕ). shift_read 5 0b0000000 m rd rs1) (amount_back 0b0000000 n refl h)
shift_back shift.Sra rd rs1 n h =
    ap (λ (m : ℕ). shift_read 5 m ((0b0100000 + n / 2 ^ 5) % 2 * 2 ^ 5 + n % 2 ^ 5) rd rs1) (high_back 0b0100000 n refl h)
    ∙ ap (λ (m : ℕ). shift_read 5 0b0100000 m rd rs1) (amount_back 0b0100000 n refl h)

word_shift_back : (s : Shift) (rd rs1 n : ℕ) → word_imm_instr_of (fields (i.ShiftWord s rd rs1 n)) ≡ Some (i.ShiftWord s rd rs1 n)
unfolding word_imm_instr_of
word_shift_back shift.Sll rd rs1 n = refl
word_shift_back shift.Srl rd rs1 n = refl
word_shift_back shift.Sra rd rs1 n = refl

addiw_back : (rd rs1 n : ℕ) → word_imm_instr_of (fields (i.Addiw rd rs1 n)) ≡ Some (i.Addiw rd rs1 n)
unfolding word_imm_instr_of
addiw_back rd rs1 n = ap (λ (m : ℕ). let r : Option Instr = Some (i.Addiw rd rs1 m) in r) (i_back n)

pub instr_of-fields : (x : Instr) → IsInstr x → instr_of (fields x) ≡ Some x
unfolding instr_of
instr_of-fields (i.Upper upper.Lui rd n) h = ap (λ (m : ℕ). let r : Option Instr = Some (i.Upper upper.Lui rd m) in r) (u_back n)
instr_of-fields (i.Upper upper.Auipc rd n) h = ap (λ (m : ℕ). let r : Option Instr = Some (i.Upper upper.Auipc rd m) in r) (u_back n)
instr_of-fields (i.Jal rd half) h =
    ap (λ (m : ℕ). let r : Option Instr = Some (i.Jal rd (jump_half m)) in r) (u_back (jump_bits half))
    ∙ ap (λ (m : ℕ). let r : Option Instr = Some (i.Jal rd m) in r) (j_back half h.1)
instr_of-fields (i.Jalr rd rs1 n) h = ap (λ (m : ℕ). let r : Option Instr = Some (i.Jalr rd rs1 m) in r) (i_back n)
instr_of-fields (i.Branch b rs1 rs2 half) h =
    let n = (((half / 2 ^ 11 * 2 ^ 6 + half / 2 ^ 4 % 2 ^ 6) / 2 ^ 6 * 2 + (half % 2 ^ 4 * 2 + half / 2 ^ 10 % 2) % 2) * 2 ^ 6 + (half / 2 ^ 11 * 2 ^ 6 + half / 2 ^ 4 % 2 ^ 6) % 2 ^ 6) * 2 ^ 4 + (half % 2 ^ 4 * 2 + half / 2 ^ 10 % 2) / 2 in
    ap (λ (o : Option Branch). option_map (λ c. i.Branch c rs1 rs2 n) o) (branch_of-code b)
    ∙ ap (λ (m : ℕ). let r : Option Instr = Some (i.Branch b rs1 rs2 m) in r) (b_back half h.2)
instr_of-fields (i.Load l rd rs1 n) h =
    ap (λ (o : Option Load). option_map (λ c. i.Load c rd rs1 (n / 2 ^ 5 * 2 ^ 5 + n % 2 ^ 5)) o) (load_of-code l)
    ∙ ap (λ (m : ℕ). let r : Option Instr = Some (i.Load l rd rs1 m) in r) (i_back n)
instr_of-fields (i.Store s rs1 rs2 n) h =
    ap (λ (o : Option Store). option_map (λ c. i.Store c rs1 rs2 (n / 2 ^ 5 * 2 ^ 5 + n % 2 ^ 5)) o) (store_of-code s)
    ∙ ap (λ (m : ℕ). let r : Option Instr = Some (i.Store s rs1 rs2 m) in r) (i_back n)
instr_of-fields (i.Imm o rd rs1 n) h = imm_back o rd rs1 n
instr_of-fields (i.Shift s rd rs1 n) h = shift_back s rd rs1 n h.2
instr_of-fields (i.Addiw rd rs1 n) h = addiw_back rd rs1 n
instr_of-fields (i.ShiftWord s rd rs1 n) h = word_shift_back s rd rs1 n
instr_of-fields (i.Op o rd rs1 rs2) h = ap (λ (p : Option RegOp). option_map (λ c. i.Op c rd rs1 rs2) p) (op_of-code o)
instr_of-fields (i.WordOp o rd rs1 rs2) h = ap (λ (p : Option WordOp). option_map (λ c. i.WordOp c rd rs1 rs2) p) (word_op_of-code o)
instr_of-fields i.Ecall h = refl
