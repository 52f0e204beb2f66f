-- What an image has, the rules that it keeps, and its one spelling: this project's own format, version 1.
use Rattle.std.specs.Prelude.{◌≡◌, ℕ, ◌+◌, ◌%◌, ◌<◌, ◌≤◌, List, ◌++◌, length}
use Rattle.std.specs.Int.{w32, w64, to_le_bytes}
use Rattle.debug_info.specs.Tables.{Tables, IsTables}
use Rattle.debug_info.specs.Spelling.{tables_bytes}

-- an image without where it lies in memory
pub record Content : Type 0 where
  pub code : List ℕ
  pub statics : List ℕ
  pub debug : Tables
  pub entry : ℕ

abbrev pub content : List ℕ → List ℕ → Tables → ℕ → Content
content code statics debug entry = record { code = code; statics = statics; debug = debug; entry = entry }

-- code is whole instructions, at least one; statics are whole words; the entry is an instruction of
-- the code, which begins at 65,536
pub record IsImage (i : Content) : Type 0 where
  pub code_whole : length i.code % 4 ≡ 0
  pub code_some : 4 ≤ length i.code
  pub code_limit : length i.code ≤ 134217728
  pub statics_whole : length i.statics % 8 ≡ 0
  pub statics_limit : length i.statics ≤ 67108864
  pub debug : IsTables i.debug
  pub entry_whole : i.entry % 4 ≡ 0
  pub entry_low : 65536 ≤ i.entry
  pub entry_high : i.entry < 65536 + length i.code

-- the bytes of the debug tables
abbrev pub debug_bytes : Tables → List ℕ
debug_bytes t = tables_bytes t.texts t.sites t.functions t.variables

-- the bytes `PYIM`, as a number
abbrev pub magic_number : ℕ
magic_number = 0x4D495950

-- magic 4, version 4, the lengths of code, statics and debug 8 each, entry 8
abbrev pub header_bytes : ℕ → ℕ → ℕ → ℕ → List ℕ
header_bytes code statics debug entry =
    to_le_bytes w32 magic_number ++ (to_le_bytes w32 1 ++ (to_le_bytes w64 code ++ (to_le_bytes w64 statics ++ (to_le_bytes w64 debug ++ to_le_bytes w64 entry))))

-- the one spelling of an image: its header, and the three parts
unfoldable pub spelling : Content → List ℕ
spelling i =
    header_bytes (length i.code) (length i.statics) (length (debug_bytes i.debug)) i.entry ++ (i.code ++ (i.statics ++ debug_bytes i.debug))
