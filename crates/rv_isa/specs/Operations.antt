-- What the operations give, on words of 64 bits: RISC-V Instruction Set Manual, Volume I, the chapters on RV32I, RV64I and "M".
use Rattle.std.specs.Prelude.{ℕ, ℤ, pos, ◌+◌, ◌-◌, ◌*◌, ◌/◌, ◌%◌, ◌^◌, ◌*ℤ◌, Bool, nat_lt, ◌==◌, not, int_lt, int_div, int_rem, bit_and, bit_or, bit_xor, if◌then◌else◌}
use Rattle.std.specs.Int.{w32, w64, cast_signed, cast_unsigned, int_shr, from_bool}
use Rattle.rv_isa.specs.declared.instr.Branch.{Branch}
use Rattle.rv_isa.specs.declared.instr.Branch.TheVariants as branch
use Rattle.rv_isa.specs.declared.instr.Load.{Load}
use Rattle.rv_isa.specs.declared.instr.Load.TheVariants as load
use Rattle.rv_isa.specs.declared.instr.Store.{Store}
use Rattle.rv_isa.specs.declared.instr.Store.TheVariants as store
use Rattle.rv_isa.specs.declared.instr.Upper.{Upper}
use Rattle.rv_isa.specs.declared.instr.Upper.TheVariants as upper
use Rattle.rv_isa.specs.declared.instr.ImmOp.{ImmOp}
use Rattle.rv_isa.specs.declared.instr.ImmOp.TheVariants as imm
use Rattle.rv_isa.specs.declared.instr.Shift.{Shift}
use Rattle.rv_isa.specs.declared.instr.Shift.TheVariants as shift
use Rattle.rv_isa.specs.declared.instr.RegOp.{RegOp}
use Rattle.rv_isa.specs.declared.instr.RegOp.TheVariants as op
use Rattle.rv_isa.specs.declared.instr.WordOp.{WordOp}
use Rattle.rv_isa.specs.declared.instr.WordOp.TheVariants as wop

-- a number of k bits, extended by its sign to 64 bits
abbrev pub extended : ℕ → ℕ → ℕ
extended k n = if nat_lt n (2 ^ (k - 1)) then n else n + (2 ^ 64 - 2 ^ k)

-- a sum, and a difference, of 64 bits
abbrev pub plus : ℕ → ℕ → ℕ
plus a b = (a + b) % 2 ^ 64

abbrev pub minus : ℕ → ℕ → ℕ
minus a b = (a + (2 ^ 64 - b)) % 2 ^ 64

-- a word as a signed number, and the word of a signed number
abbrev pub signed : ℕ → ℤ
signed a = cast_signed w64 a

abbrev pub unsigned : ℤ → ℕ
unsigned z = cast_unsigned w64 z

-- the low 32 bits, and these as a signed number; 32 bits extended by their sign
abbrev pub low : ℕ → ℕ
low a = a % 2 ^ 32

abbrev pub low_signed : ℕ → ℤ
low_signed a = cast_signed w32 (low a)

abbrev pub word : ℕ → ℕ
word a = extended 32 (low a)

abbrev pub upper_value : Upper → ℕ → ℕ → ℕ
upper_value upper.Lui pc n = extended 32 (n * 2 ^ 12)
upper_value upper.Auipc pc n = plus pc (extended 32 (n * 2 ^ 12))

abbrev pub imm_value : ImmOp → ℕ → ℕ → ℕ
imm_value imm.Addi a b = plus a b
imm_value imm.Slti a b = from_bool (int_lt (signed a) (signed b))
imm_value imm.Sltiu a b = from_bool (nat_lt a b)
imm_value imm.Xori a b = bit_xor a b
imm_value imm.Ori a b = bit_or a b
imm_value imm.Andi a b = bit_and a b

abbrev pub shift_value : Shift → ℕ → ℕ → ℕ
shift_value shift.Sll a k = a * 2 ^ k % 2 ^ 64
shift_value shift.Srl a k = a / 2 ^ k
shift_value shift.Sra a k = unsigned (int_shr (signed a) k)

abbrev pub word_shift_value : Shift → ℕ → ℕ → ℕ
word_shift_value shift.Sll a k = word (low a * 2 ^ k)
word_shift_value shift.Srl a k = word (low a / 2 ^ k)
word_shift_value shift.Sra a k = unsigned (int_shr (low_signed a) k)

abbrev pub op_value : RegOp → ℕ → ℕ → ℕ
op_value op.Add a b = plus a b
op_value op.Sub a b = minus a b
op_value op.Sll a b = shift_value shift.Sll a (b % 64)
op_value op.Srl a b = shift_value shift.Srl a (b % 64)
op_value op.Sra a b = shift_value shift.Sra a (b % 64)
op_value op.Slt a b = from_bool (int_lt (signed a) (signed b))
op_value op.Sltu a b = from_bool (nat_lt a b)
op_value op.Xor a b = bit_xor a b
op_value op.Or a b = bit_or a b
op_value op.And a b = bit_and a b
op_value op.Mul a b = a * b % 2 ^ 64
op_value op.Mulh a b = unsigned (int_shr (signed a *ℤ signed b) 64)
op_value op.Mulhsu a b = unsigned (int_shr (signed a *ℤ pos b) 64)
op_value op.Mulhu a b = a * b / 2 ^ 64
op_value op.Div a b = if b == 0 then 2 ^ 64 - 1 else unsigned (int_div (signed a) (signed b))
op_value op.Divu a b = if b == 0 then 2 ^ 64 - 1 else a / b
op_value op.Rem a b = if b == 0 then a else unsigned (int_rem (signed a) (signed b))
op_value op.Remu a b = if b == 0 then a else a % b

abbrev pub word_op_value : WordOp → ℕ → ℕ → ℕ
word_op_value wop.Addw a b = word (a + b)
word_op_value wop.Subw a b = word (low a + (2 ^ 32 - low b))
word_op_value wop.Sllw a b = word_shift_value shift.Sll a (b % 32)
word_op_value wop.Srlw a b = word_shift_value shift.Srl a (b % 32)
word_op_value wop.Sraw a b = word_shift_value shift.Sra a (b % 32)
word_op_value wop.Mulw a b = word (a * b)
word_op_value wop.Divw a b = if low b == 0 then 2 ^ 64 - 1 else word (unsigned (int_div (low_signed a) (low_signed b)))
word_op_value wop.Divuw a b = if low b == 0 then 2 ^ 64 - 1 else word (low a / low b)
word_op_value wop.Remw a b = if low b == 0 then word a else unsigned (int_rem (low_signed a) (low_signed b))
word_op_value wop.Remuw a b = if low b == 0 then word a else word (low a % low b)

-- whether the branch is taken
abbrev pub is_taken : Branch → ℕ → ℕ → Bool
is_taken branch.Beq a b = a == b
is_taken branch.Bne a b = not (a == b)
is_taken branch.Blt a b = int_lt (signed a) (signed b)
is_taken branch.Bge a b = not (int_lt (signed a) (signed b))
is_taken branch.Bltu a b = nat_lt a b
is_taken branch.Bgeu a b = not (nat_lt a b)

-- how many bytes are loaded, and what is then in the register
abbrev pub load_bytes : Load → ℕ
load_bytes load.Lb = 1
load_bytes load.Lh = 2
load_bytes load.Lw = 4
load_bytes load.Ld = 8
load_bytes load.Lbu = 1
load_bytes load.Lhu = 2
load_bytes load.Lwu = 4

abbrev pub load_value : Load → ℕ → ℕ
load_value load.Lb n = extended 8 n
load_value load.Lh n = extended 16 n
load_value load.Lw n = extended 32 n
load_value load.Ld n = n
load_value load.Lbu n = n
load_value load.Lhu n = n
load_value load.Lwu n = n

abbrev pub store_bytes : Store → ℕ
store_bytes store.Sb = 1
store_bytes store.Sh = 2
store_bytes store.Sw = 4
store_bytes store.Sd = 8
