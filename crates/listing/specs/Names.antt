-- Names of operations in lower case: RISC-V Instruction Set Manual, Volume I, "RV32/64G Instruction Set Listings".
use Rattle.std.specs.Prelude.{ℕ, List, codes}
use Rattle.rv_isa.specs.declared.instr.Upper.{Upper}
use Rattle.rv_isa.specs.declared.instr.Upper.TheVariants as upper
use Rattle.rv_isa.specs.declared.instr.Branch.{Branch}
use Rattle.rv_isa.specs.declared.instr.Branch.TheVariants as branch
use Rattle.rv_isa.specs.declared.instr.Load.{Load}
use Rattle.rv_isa.specs.declared.instr.Load.TheVariants as load
use Rattle.rv_isa.specs.declared.instr.Store.{Store}
use Rattle.rv_isa.specs.declared.instr.Store.TheVariants as store
use Rattle.rv_isa.specs.declared.instr.ImmOp.{ImmOp}
use Rattle.rv_isa.specs.declared.instr.ImmOp.TheVariants as imm
use Rattle.rv_isa.specs.declared.instr.Shift.{Shift}
use Rattle.rv_isa.specs.declared.instr.Shift.TheVariants as shift
use Rattle.rv_isa.specs.declared.instr.RegOp.{RegOp}
use Rattle.rv_isa.specs.declared.instr.RegOp.TheVariants as op
use Rattle.rv_isa.specs.declared.instr.WordOp.{WordOp}
use Rattle.rv_isa.specs.declared.instr.WordOp.TheVariants as wop

abbrev pub upper_name : Upper → List ℕ
upper_name upper.Lui = codes "lui"
upper_name upper.Auipc = codes "auipc"

abbrev pub branch_name : Branch → List ℕ
branch_name branch.Beq = codes "beq"
branch_name branch.Bne = codes "bne"
branch_name branch.Blt = codes "blt"
branch_name branch.Bge = codes "bge"
branch_name branch.Bltu = codes "bltu"
branch_name branch.Bgeu = codes "bgeu"

abbrev pub load_name : Load → List ℕ
load_name load.Lb = codes "lb"
load_name load.Lh = codes "lh"
load_name load.Lw = codes "lw"
load_name load.Ld = codes "ld"
load_name load.Lbu = codes "lbu"
load_name load.Lhu = codes "lhu"
load_name load.Lwu = codes "lwu"

abbrev pub store_name : Store → List ℕ
store_name store.Sb = codes "sb"
store_name store.Sh = codes "sh"
store_name store.Sw = codes "sw"
store_name store.Sd = codes "sd"

abbrev pub imm_name : ImmOp → List ℕ
imm_name imm.Addi = codes "addi"
imm_name imm.Slti = codes "slti"
imm_name imm.Sltiu = codes "sltiu"
imm_name imm.Xori = codes "xori"
imm_name imm.Ori = codes "ori"
imm_name imm.Andi = codes "andi"

-- a shift by a constant, of 64 bits and of 32
abbrev pub shift_name : Shift → List ℕ
shift_name shift.Sll = codes "slli"
shift_name shift.Srl = codes "srli"
shift_name shift.Sra = codes "srai"

abbrev pub word_shift_name : Shift → List ℕ
word_shift_name shift.Sll = codes "slliw"
word_shift_name shift.Srl = codes "srliw"
word_shift_name shift.Sra = codes "sraiw"

abbrev pub op_name : RegOp → List ℕ
op_name op.Add = codes "add"
op_name op.Sub = codes "sub"
op_name op.Sll = codes "sll"
op_name op.Slt = codes "slt"
op_name op.Sltu = codes "sltu"
op_name op.Xor = codes "xor"
op_name op.Srl = codes "srl"
op_name op.Sra = codes "sra"
op_name op.Or = codes "or"
op_name op.And = codes "and"
op_name op.Mul = codes "mul"
op_name op.Mulh = codes "mulh"
op_name op.Mulhsu = codes "mulhsu"
op_name op.Mulhu = codes "mulhu"
op_name op.Div = codes "div"
op_name op.Divu = codes "divu"
op_name op.Rem = codes "rem"
op_name op.Remu = codes "remu"

abbrev pub word_op_name : WordOp → List ℕ
word_op_name wop.Addw = codes "addw"
word_op_name wop.Subw = codes "subw"
word_op_name wop.Sllw = codes "sllw"
word_op_name wop.Srlw = codes "srlw"
word_op_name wop.Sraw = codes "sraw"
word_op_name wop.Mulw = codes "mulw"
word_op_name wop.Divw = codes "divw"
word_op_name wop.Divuw = codes "divuw"
word_op_name wop.Remw = codes "remw"
word_op_name wop.Remuw = codes "remuw"
