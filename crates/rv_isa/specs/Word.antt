-- The fields of an instruction word, and the formats: RISC-V Instruction Set Manual, Volume I, "Base Instruction Formats" and "Immediate Encoding Variants".
use Rattle.std.specs.Prelude.{ℕ, ◌+◌, ◌*◌, ◌/◌, ◌%◌, ◌^◌, ◌<◌}
use Rattle.rv_isa.specs.declared.fields.Fields.{Fields}

-- each field within its bits
pub record AreFields (f : Fields) : Type 0 where
  pub opcode : f.opcode < 2 ^ 7
  pub rd : f.rd < 2 ^ 5
  pub funct3 : f.funct3 < 2 ^ 3
  pub rs1 : f.rs1 < 2 ^ 5
  pub rs2 : f.rs2 < 2 ^ 5
  pub funct7 : f.funct7 < 2 ^ 7

-- the word of 32 bits
unfoldable pub word_of : Fields → ℕ
word_of f = ((((f.funct7 * 2 ^ 5 + f.rs2) * 2 ^ 5 + f.rs1) * 2 ^ 3 + f.funct3) * 2 ^ 5 + f.rd) * 2 ^ 7 + f.opcode

unfoldable pub fields_of : ℕ → Fields
fields_of w = record {
  opcode = w % 2 ^ 7;
  rd = w / 2 ^ 7 % 2 ^ 5;
  funct3 = w / 2 ^ 12 % 2 ^ 3;
  rs1 = w / 2 ^ 15 % 2 ^ 5;
  rs2 = w / 2 ^ 20 % 2 ^ 5;
  funct7 = w / 2 ^ 25;
}

-- The formats. An immediate of I and S has 12 bits, of U 20. That of B and J is half the offset, with 12 and 20 bits.

abbrev pub r_format : ℕ → ℕ → ℕ → ℕ → ℕ → ℕ → Fields
r_format op rd f3 rs1 rs2 f7 = record { opcode = op; rd = rd; funct3 = f3; rs1 = rs1; rs2 = rs2; funct7 = f7 }

-- imm[11:0] in bits 31 to 20
abbrev pub i_format : ℕ → ℕ → ℕ → ℕ → ℕ → Fields
i_format op rd f3 rs1 imm = r_format op rd f3 rs1 (imm % 2 ^ 5) (imm / 2 ^ 5)

-- imm[11:5] in funct7, imm[4:0] in rd
abbrev pub s_format : ℕ → ℕ → ℕ → ℕ → ℕ → Fields
s_format op f3 rs1 rs2 imm = r_format op (imm % 2 ^ 5) f3 rs1 rs2 (imm / 2 ^ 5)

-- imm[12], imm[10:5] in funct7, imm[4:1], imm[11] in rd
abbrev pub b_format : ℕ → ℕ → ℕ → ℕ → ℕ → Fields
b_format op f3 rs1 rs2 half =
    r_format op (half % 2 ^ 4 * 2 + half / 2 ^ 10 % 2) f3 rs1 rs2 (half / 2 ^ 11 * 2 ^ 6 + half / 2 ^ 4 % 2 ^ 6)

-- imm[31:12] in bits 31 to 12
abbrev pub u_format : ℕ → ℕ → ℕ → Fields
u_format op rd imm = r_format op rd (imm % 2 ^ 3) (imm / 2 ^ 3 % 2 ^ 5) (imm / 2 ^ 8 % 2 ^ 5) (imm / 2 ^ 13)

-- imm[20], imm[10:1], imm[11], imm[19:12] in bits 31 to 12
abbrev pub jump_bits : ℕ → ℕ
jump_bits half = ((half / 2 ^ 19 * 2 ^ 10 + half % 2 ^ 10) * 2 + half / 2 ^ 10 % 2) * 2 ^ 8 + half / 2 ^ 11 % 2 ^ 8

abbrev pub j_format : ℕ → ℕ → ℕ → Fields
j_format op rd half = u_format op rd (jump_bits half)

-- The immediates, read back.

abbrev pub i_imm : Fields → ℕ
i_imm f = f.funct7 * 2 ^ 5 + f.rs2

abbrev pub s_imm : Fields → ℕ
s_imm f = f.funct7 * 2 ^ 5 + f.rd

abbrev pub b_half : Fields → ℕ
b_half f = ((f.funct7 / 2 ^ 6 * 2 + f.rd % 2) * 2 ^ 6 + f.funct7 % 2 ^ 6) * 2 ^ 4 + f.rd / 2

abbrev pub u_imm : Fields → ℕ
u_imm f = ((f.funct7 * 2 ^ 5 + f.rs2) * 2 ^ 5 + f.rs1) * 2 ^ 3 + f.funct3

abbrev pub jump_half : ℕ → ℕ
jump_half n = ((n / 2 ^ 19 * 2 ^ 8 + n % 2 ^ 8) * 2 + n / 2 ^ 8 % 2) * 2 ^ 10 + n / 2 ^ 9 % 2 ^ 10

abbrev pub j_half : Fields → ℕ
j_half f = jump_half (u_imm f)
