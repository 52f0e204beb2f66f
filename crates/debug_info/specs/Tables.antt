-- The debug tables of an image and the rules that they keep: this project's own format.
use Rattle.std.specs.Prelude.{ℕ, ◌^◌, ◌≤◌, Bool, true, ◌&&◌, nat_lt, nat_le, List, [], ◌∷◌, length, Option, Some, None, IsTrue}
use Rattle.std.specs.List.{list_all}
use Rattle.std.specs.Str.{is_utf8}
use Rattle.debug_info.specs.declared.rows.SitePlace.{SitePlace}
use Rattle.debug_info.specs.declared.rows.SitePlace.TheVariants.{File, Prelude}
use Rattle.debug_info.specs.declared.rows.SiteRow.{SiteRow}
use Rattle.debug_info.specs.declared.rows.FunRow.{FunRow}
use Rattle.debug_info.specs.declared.rows.VarRow.{VarRow}
use Rattle.debug_info.specs.declared.rows.Location.{Location}
use Rattle.debug_info.specs.declared.rows.LocationClass.{LocationClass}
use Rattle.debug_info.specs.declared.rows.LocationClass.TheVariants as classes
use Rattle.debug_info.specs.Spelling.{tables_bytes}

-- the tables without where they lie in memory; a text is its bytes
pub record Tables : Type 0 where
  pub texts : List (List ℕ)
  pub sites : List SiteRow
  pub functions : List FunRow
  pub variables : List VarRow

-- a text is UTF-8 of at most 1,048,576 bytes
abbrev pub is_text : List ℕ → Bool
is_text text = nat_le (length text) 1048576 && is_utf8 text

-- an address may follow the one before it, where there is one: addresses rise strictly
abbrev pub is_above : Option ℕ → ℕ → Bool
is_above None n = true
is_above (Some before) n = nat_lt before n

-- the numbers of a place fit 32 bits, and that of a text is below the count of texts
abbrev pub is_place : ℕ → SitePlace → Bool
is_place texts (File offset tail) = nat_lt offset (2 ^ 32) && nat_lt tail (2 ^ 32)
is_place texts (Prelude text) = nat_lt text texts

abbrev pub is_optional_text : ℕ → Option ℕ → Bool
is_optional_text texts None = true
is_optional_text texts (Some n) = nat_lt n texts

abbrev pub is_site : ℕ → SiteRow → Bool
is_site texts r = nat_lt r.pc (2 ^ 64) && (is_place texts r.place && is_optional_text texts r.text)

abbrev pub is_function : ℕ → FunRow → Bool
is_function texts r = nat_lt r.start (2 ^ 64) && (nat_lt r.name texts && nat_lt r.words (2 ^ 32))

-- a class that has a name is written by its name
abbrev pub is_class : LocationClass → Bool
is_class classes.DescriptorRegister = true
is_class classes.WordRegister = true
is_class classes.CharacterRegister = true
is_class classes.ControlSlot = true
is_class classes.WordSlot = true
is_class classes.CharacterSlot = true
is_class (classes.Other code) = nat_le 6 code && nat_lt code 256

abbrev pub is_location : Location → Bool
is_location l = is_class l.class && nat_lt l.number (2 ^ 24)

abbrev pub is_variable : ℕ → VarRow → Bool
is_variable texts r =
    nat_lt r.from (2 ^ 64) && (nat_lt r.to (2 ^ 64) && (nat_lt r.name texts && is_location r.location))

-- rows that are right one by one, and whose addresses rise strictly from the one before them
abbrev pub are_rising : {X : Type 0} → (X → ℕ) → (X → Bool) → Option ℕ → List X → Bool
are_rising address is_row before [] = true
are_rising address is_row before (r ∷ rs) = is_above before (address r) && is_row r && are_rising address is_row (Some (address r)) rs

abbrev pub are_sites : ℕ → Option ℕ → List SiteRow → Bool
are_sites texts before rows = are_rising (λ r. r.pc) (is_site texts) before rows

abbrev pub are_functions : ℕ → Option ℕ → List FunRow → Bool
are_functions texts before rows = are_rising (λ r. r.start) (is_function texts) before rows

-- the rules of the tables
pub record IsTables (t : Tables) : Type 0 where
  pub texts : IsTrue (list_all is_text t.texts)
  pub sites : IsTrue (are_sites (length t.texts) None t.sites)
  pub functions : IsTrue (are_functions (length t.texts) None t.functions)
  pub variables : IsTrue (list_all (is_variable (length t.texts)) t.variables)
  pub size : length (tables_bytes t.texts t.sites t.functions t.variables) ≤ 268435456

-- no rows at all
abbrev pub no_tables : Tables
no_tables = record { texts = []; sites = []; functions = []; variables = [] }
