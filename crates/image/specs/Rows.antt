-- Reading the debug tables row by row. A row that isn't whole or breaks a rule is a fault at its first byte.
use Rattle.std.specs.Prelude.{ℕ, zero, suc, ◌-◌, ◌/◌, ◌%◌, ◌^◌, Bool, ◌&&◌, nat_lt, ◌==◌, List, [], ◌∷◌, length, take, drop, Option, Some, None, Result, Ok, if◌then◌else◌}
use Rattle.std.specs.Int.{w32, w64}
use Rattle.debug_info.specs.declared.rows.SitePlace.{SitePlace}
use Rattle.debug_info.specs.declared.rows.SitePlace.TheVariants.{File, Prelude}
use Rattle.debug_info.specs.declared.rows.SiteRow.{SiteRow}
use Rattle.debug_info.specs.declared.rows.FunRow.{FunRow}
use Rattle.debug_info.specs.declared.rows.VarRow.{VarRow}
use Rattle.debug_info.specs.declared.rows.Location.{Location}
use Rattle.debug_info.specs.declared.rows.LocationClass.{LocationClass}
use Rattle.debug_info.specs.declared.rows.LocationClass.TheVariants as classes
use Rattle.debug_info.specs.Tables.{Tables, is_above, is_text, is_site, is_function, is_variable}
use Rattle.image.specs.declared.fault.ImageKind.TheVariants as kinds
use Rattle.image.specs.Fields.{Fault, ◌>>=◌, fault, number}

infixl 10 ◌>?=◌
abbrev pub ◌>?=◌ : {A B : Type 0} → Option A → (A → Option B) → Option B
(Some x) >?= f = f x
None >?= f = None

-- a row that keeps its rules
abbrev pub kept : {X : Type 0} → Bool → X → List ℕ → Option (X × List ℕ)
kept is_right row rest = if is_right then Some (row, rest) else None

-- so many bytes, and those behind them
abbrev pub cut : ℕ → List ℕ → Option (List ℕ × List ℕ)
cut size rest = if nat_lt (length rest) size then None else Some (take size rest, drop size rest)

-- a text: its length, and that many bytes
unfoldable pub text_row : List ℕ → Option (List ℕ × List ℕ)
text_row rest =
    number w32 rest >?= λ size. (cut size.0 size.1 >?= λ text. kept (is_text text.0) text.0 text.1)

-- the place that an offset, a tail and a source stand for: 0 the file, 1 the prelude
unfoldable pub place_of : ℕ → ℕ → ℕ → Option SitePlace
place_of zero offset tail = Some (File offset tail)
place_of (suc zero) offset tail = if tail == 0 then Some (Prelude offset) else None
place_of (suc (suc source)) offset tail = None

-- the text that a number stands for: all ones for none
abbrev pub optional_text : ℕ → Option ℕ
optional_text n = if n == 0xFFFFFFFF then None else Some n

-- a place: offset 4, tail 4, source 4
unfoldable pub place_at : List ℕ → Option (SitePlace × List ℕ)
place_at rest =
    number w32 rest >?= λ offset. (number w32 offset.1 >?= λ tail. (number w32 tail.1 >?= λ source.
    (place_of source.0 offset.0 tail.0 >?= λ place. Some (place, source.1))))

-- a site: pc 8, place 12, text 4
unfoldable pub site_row : ℕ → Option ℕ → List ℕ → Option (SiteRow × List ℕ)
site_row texts before rest =
    number w64 rest >?= λ pc. (place_at pc.1 >?= λ place. (number w32 place.1 >?= λ text.
    (let row : SiteRow = record { pc = pc.0; place = place.0; text = optional_text text.0 } in
    kept (is_above before row.pc && is_site texts row) row text.1)))

-- a function: start 8, name 4, words of the frame 4
unfoldable pub function_row : ℕ → Option ℕ → List ℕ → Option (FunRow × List ℕ)
function_row texts before rest =
    number w64 rest >?= λ start. (number w32 start.1 >?= λ name. (number w32 name.1 >?= λ words.
    (let row : FunRow = record { start = start.0; name = name.0; words = words.0 } in
    kept (is_above before row.start && is_function texts row) row words.1)))

-- the class that a code stands for
unfoldable pub class_of : ℕ → LocationClass
class_of zero = classes.DescriptorRegister
class_of (suc zero) = classes.WordRegister
class_of (suc (suc zero)) = classes.CharacterRegister
class_of (suc (suc (suc zero))) = classes.ControlSlot
class_of (suc (suc (suc (suc zero)))) = classes.WordSlot
class_of (suc (suc (suc (suc (suc zero))))) = classes.CharacterSlot
class_of (suc (suc (suc (suc (suc (suc code)))))) = classes.Other (suc (suc (suc (suc (suc (suc code))))))

-- a location: its class in the top byte of the number
abbrev pub location_of : ℕ → Location
location_of n = record { class = class_of (n / 2 ^ 24); number = n % 2 ^ 24 }

-- a variable: from 8, to 8, name 4, location 4
unfoldable pub variable_row : ℕ → List ℕ → Option (VarRow × List ℕ)
variable_row texts rest =
    number w64 rest >?= λ from. (number w64 from.1 >?= λ to. (number w32 to.1 >?= λ name. (number w32 name.1 >?= λ location.
    (let row : VarRow = record { from = from.0; to = to.0; name = name.0; location = location_of location.0 } in
    kept (is_variable texts row) row location.1))))

-- what was read, or a fault at the first byte of what is left
abbrev pub or_wrong : {X : Type 0} → ℕ → List ℕ → Option X → Result X Fault
or_wrong end rest (Some x) = Ok x
or_wrong end rest None = fault (end - length rest) kinds.Debug

-- so many rows, each of which may look at the address of the one before it
unfoldable pub rows : {X : Type 0} → (Option ℕ → List ℕ → Option (X × List ℕ)) → (X → Option ℕ) → ℕ → ℕ → Option ℕ → List ℕ → Result (List X × List ℕ) Fault
rows row address end zero before rest = Ok ([], rest)
rows row address end (suc count) before rest =
    or_wrong end rest (row before rest) >>= λ first. (rows row address end count (address first.0) first.1 >>= λ others. Ok (first.0 ∷ others.0, others.1))

-- a table: its count, and that many rows
unfoldable pub table : {X : Type 0} → (Option ℕ → List ℕ → Option (X × List ℕ)) → (X → Option ℕ) → ℕ → List ℕ → Result (List X × List ℕ) Fault
table row address end rest = or_wrong end rest (number w32 rest) >>= λ count. rows row address end count.0 None count.1

abbrev pub text_table : ℕ → List ℕ → Result (List (List ℕ) × List ℕ) Fault
text_table end rest = table (λ _ bytes. text_row bytes) (λ _. None) end rest

abbrev pub site_table : ℕ → ℕ → List ℕ → Result (List SiteRow × List ℕ) Fault
site_table texts end rest = table (site_row texts) (λ r. Some r.pc) end rest

abbrev pub function_table : ℕ → ℕ → List ℕ → Result (List FunRow × List ℕ) Fault
function_table texts end rest = table (function_row texts) (λ r. Some r.start) end rest

abbrev pub variable_table : ℕ → ℕ → List ℕ → Result (List VarRow × List ℕ) Fault
variable_table texts end rest = table (λ _ bytes. variable_row texts bytes) (λ _. None) end rest

-- the four tables of a section that ends at end, all of its bytes
unfoldable pub debug_of : ℕ → List ℕ → Result Tables Fault
debug_of end bytes = do
  texts ← text_table end bytes
  sites ← site_table (length texts.0) end texts.1
  functions ← function_table (length texts.0) end sites.1
  variables ← variable_table (length texts.0) end functions.1
  if length variables.1 == 0 then Ok (record { texts = texts.0; sites = sites.0; functions = functions.0; variables = variables.0 }) else fault (end - length variables.1) kinds.Debug
