-- The image of some bytes, or their first fault: this project's own format, version 1.
use Rattle.std.specs.Prelude.{ℕ, ◌+◌, ◌-◌, ◌%◌, Bool, ◌&&◌, nat_lt, nat_le, ◌==◌, List, length, Result, Ok, if◌then◌else◌}
use Rattle.std.specs.Int.{w32, w64}
use Rattle.image.specs.declared.fault.ImageKind.TheVariants as kinds
use Rattle.image.specs.Content.{Content, content, magic_number}
use Rattle.image.specs.Fields.{Fault, ◌>>=◌, fault, field, part}
use Rattle.image.specs.Rows.{debug_of}

abbrev pub is_code_length : ℕ → Bool
is_code_length n = n % 4 == 0 && (nat_le 4 n && nat_le n 134217728)

abbrev pub is_statics_length : ℕ → Bool
is_statics_length n = n % 8 == 0 && nat_le n 67108864

-- an entry into so many bytes of code
abbrev pub is_entry : ℕ → ℕ → Bool
is_entry code n = n % 4 == 0 && (nat_le 65536 n && nat_lt n (65536 + code))

-- the lengths of the three parts, and the entry
pub record Header : Type 0 where
  pub code : ℕ
  pub statics : ℕ
  pub debug : ℕ
  pub entry : ℕ

unfoldable pub header_of : ℕ → List ℕ → Result (Header × List ℕ) Fault
header_of end bytes = do
  magic ← field w32 (λ n. n == magic_number) kinds.Magic end bytes
  version ← field w32 (λ n. n == 1) kinds.Version end magic.1
  code ← field w64 is_code_length kinds.CodeLength end version.1
  statics ← field w64 is_statics_length kinds.StaticsLength end code.1
  debug ← field w64 (λ n. nat_le n 268435456) kinds.DebugLength end statics.1
  entry ← field w64 (is_entry code.0) kinds.Entry end debug.1
  Ok (record { code = code.0; statics = statics.0; debug = debug.0; entry = entry.0 }, entry.1)

-- the three parts behind the header, and nothing more
unfoldable pub parts_of : ℕ → Header → List ℕ → Result Content Fault
parts_of end h rest = do
  code ← part h.code end rest
  statics ← part h.statics end code.1
  debug ← part h.debug end statics.1
  tables ← debug_of (end - length debug.1) debug.0
  if length debug.1 == 0 then Ok (content code.0 statics.0 tables h.entry) else fault (end - length debug.1) kinds.Trailing

unfoldable pub image_of : List ℕ → Result Content Fault
image_of bytes = header_of (length bytes) bytes >>= λ h. parts_of (length bytes) h.0 h.1
