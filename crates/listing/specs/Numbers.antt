-- Numbers of a listing: hexadecimal digits, and fields with a sign (RISC-V Instruction Set Manual, Volume I, "Base Instruction Formats").
use Rattle.std.specs.Prelude.{ℕ, ℤ, pos, ◌-ℤ◌, ◌+◌, ◌-◌, ◌/◌, ◌%◌, ◌^◌, nat_lt, if◌then◌else◌, List, [], ◌∷◌, ◌++◌, zero, suc}

-- the character of a digit, in lower case
abbrev pub digit_character : ℕ → ℕ
digit_character n = if nat_lt n 10 then 48 + n else 87 + n

-- the last digits of a number, this many
unfoldable pub hexadecimal : ℕ → ℕ → List ℕ
hexadecimal zero n = []
hexadecimal (suc k) n = hexadecimal k (n / 16) ++ digit_character (n % 16) ∷ []

-- k bits as a number with a sign
abbrev pub signed_of : ℕ → ℕ → ℤ
signed_of k n = if nat_lt n (2 ^ (k - 1)) then pos n else pos n -ℤ pos (2 ^ k)
