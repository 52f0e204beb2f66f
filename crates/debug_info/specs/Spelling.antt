-- The bytes of the debug tables, little-endian: this project's own format.
use Rattle.std.specs.Prelude.{ℕ, ◌+◌, ◌*◌, ◌^◌, List, ◌++◌, length, Option, Some, None}
use Rattle.std.specs.List.{flat_map}
use Rattle.std.specs.Int.{w32, w64, to_le_bytes}
use Rattle.debug_info.specs.declared.rows.SitePlace.{SitePlace}
use Rattle.debug_info.specs.declared.rows.SitePlace.TheVariants.{File, Prelude}
use Rattle.debug_info.specs.declared.rows.SiteRow.{SiteRow}
use Rattle.debug_info.specs.declared.rows.FunRow.{FunRow}
use Rattle.debug_info.specs.declared.rows.VarRow.{VarRow}
use Rattle.debug_info.specs.declared.rows.Location.{Location}
use Rattle.debug_info.specs.declared.rows.LocationClass.{LocationClass}
use Rattle.debug_info.specs.declared.rows.LocationClass.TheVariants as classes

-- four bytes of length, and that many bytes
abbrev pub text_bytes : List ℕ → List ℕ
text_bytes text = to_le_bytes w32 (length text) ++ text

-- where a site lies: its offset or the number of its text, its tail, and its source
abbrev pub offset_of : SitePlace → ℕ
offset_of (File offset tail) = offset
offset_of (Prelude text) = text

abbrev pub tail_of : SitePlace → ℕ
tail_of (File offset tail) = tail
tail_of (Prelude text) = 0

abbrev pub source_of : SitePlace → ℕ
source_of (File offset tail) = 0
source_of (Prelude text) = 1

-- the number of a text, or all ones for none
abbrev pub text_number : Option ℕ → ℕ
text_number None = 0xFFFFFFFF
text_number (Some n) = n

-- offset 4, tail 4, source 4
abbrev pub place_bytes : SitePlace → List ℕ
place_bytes p = to_le_bytes w32 (offset_of p) ++ (to_le_bytes w32 (tail_of p) ++ to_le_bytes w32 (source_of p))

-- pc 8, place 12, text 4
abbrev pub site_bytes : SiteRow → List ℕ
site_bytes r = to_le_bytes w64 r.pc ++ (place_bytes r.place ++ to_le_bytes w32 (text_number r.text))

-- start 8, name 4, words of the frame 4
abbrev pub function_bytes : FunRow → List ℕ
function_bytes r = to_le_bytes w64 r.start ++ (to_le_bytes w32 r.name ++ to_le_bytes w32 r.words)

-- the code of a class of locations
abbrev pub class_code : LocationClass → ℕ
class_code classes.DescriptorRegister = 0
class_code classes.WordRegister = 1
class_code classes.CharacterRegister = 2
class_code classes.ControlSlot = 3
class_code classes.WordSlot = 4
class_code classes.CharacterSlot = 5
class_code (classes.Other code) = code

-- a location as a number: its class in the top byte
abbrev pub location_number : Location → ℕ
location_number l = class_code l.class * 2 ^ 24 + l.number

-- from 8, to 8, name 4, location 4
abbrev pub variable_bytes : VarRow → List ℕ
variable_bytes r = to_le_bytes w64 r.from ++ (to_le_bytes w64 r.to ++ (to_le_bytes w32 r.name ++ to_le_bytes w32 (location_number r.location)))

-- a table: four bytes of count, and the rows
abbrev pub table_bytes : {X : Type 0} → (X → List ℕ) → List X → List ℕ
table_bytes row rows = to_le_bytes w32 (length rows) ++ flat_map row rows

-- the four tables, one after the other
unfoldable pub tables_bytes : List (List ℕ) → List SiteRow → List FunRow → List VarRow → List ℕ
tables_bytes texts sites functions variables =
    table_bytes text_bytes texts ++ (table_bytes site_bytes sites ++ (table_bytes function_bytes functions ++ table_bytes variable_bytes variables))

-- the bytes of the four tables, counted: 4 for each count and each length of a text, 24 for a site and a variable, 16 for a function
abbrev pub size_of : List (List ℕ) → List SiteRow → List FunRow → List VarRow → ℕ
size_of texts sites functions variables =
    (4 + length (flat_map text_bytes texts)) + ((4 + 24 * length sites) + ((4 + 16 * length functions) + (4 + 24 * length variables)))
