-- Offsets from one place to another, as the instructions hold them: RISC-V Instruction Set Manual, Volume I, "Control Transfer Instructions".
use Rattle.std.specs.Prelude.{ℕ, ◌+◌, ◌-◌, ◌/◌, ◌%◌, ◌^◌, Bool, nat_le, ◌&&◌}

-- from at most 4,096 bytes before to at most 4,094 after; and 1,048,576 and 1,048,574
abbrev pub in_branch : ℕ → ℕ → Bool
in_branch from to = nat_le from (to + 4096) && nat_le to (from + 4094)

abbrev pub in_jump : ℕ → ℕ → Bool
in_jump from to = nat_le from (to + 1048576) && nat_le to (from + 1048574)

-- half of to - from, with a sign, in 12 and in 20 bits
abbrev pub branch_half : ℕ → ℕ → ℕ
branch_half from to = (to + 2 ^ 13 - from) / 2 % 2 ^ 12

abbrev pub jump_half : ℕ → ℕ → ℕ
jump_half from to = (to + 2 ^ 21 - from) / 2 % 2 ^ 20

-- to - from as 20 high bits and 12 low ones, which have a sign
abbrev pub high_part : ℕ → ℕ → ℕ
high_part from to = (to + 2 ^ 32 + 2 ^ 11 - from) / 2 ^ 12 % 2 ^ 20

abbrev pub low_part : ℕ → ℕ → ℕ
low_part from to = (to + 2 ^ 32 - from) % 2 ^ 12
