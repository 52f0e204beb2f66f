-- How the symbol table and the heap are seen (this project's own).
use Rattle.std.specs.Prelude.{ℕ, ◌<◌, ◌≤◌, nat_eq, ◌&&◌, Bool, false, List, length, map, All, string_bytes}
use Rattle.std.specs.Str.{bytes_eq}
use Rattle.lisp_base.specs.declared.values.SymKind.TheVariants as kinds
use Rattle.lisp_base.specs.declared.symbols.Entry.{Entry}
use Rattle.lisp_base.specs.declared.symbols.Entry.TheVariants as entry
use Rattle.lisp_base.specs.Tables.{Symbol, make_symbol, most_symbols, BeginsWithNames}

abbrev pub symbol_of : Entry → Symbol
symbol_of (entry.Plain name) = make_symbol (string_bytes name) kinds.Plain
symbol_of (entry.Keyword name) = make_symbol (string_bytes name) kinds.Keyword
symbol_of (entry.Fresh name number) = make_symbol (string_bytes name) kinds.Fresh

abbrev pub symbols_of : List Entry → List Symbol
symbols_of entries = map symbol_of entries

-- the number of an uninterned symbol, one that tells it from the others of its name
abbrev pub IsNumberedBelow : ℕ → Entry → Type 0
IsNumberedBelow n (entry.Plain name) = Unit {0}
IsNumberedBelow n (entry.Keyword name) = Unit {0}
IsNumberedBelow n (entry.Fresh name number) = number < n

abbrev pub AllNumberedBelow : ℕ → List Entry → Type 0
AllNumberedBelow n entries = All (IsNumberedBelow n) entries

-- what is so of every table
pub record IsKept (entries : List Entry) (fresh : ℕ) : Type 0 where
  pub few : length entries ≤ most_symbols
  pub counted : fresh ≤ length entries
  pub numbered : AllNumberedBelow (length entries) entries
  pub begins : BeginsWithNames (symbols_of entries)

-- whether two entries are the same symbol's
abbrev pub same_entry : Entry → Entry → Bool
same_entry (entry.Plain a) (entry.Plain b) = bytes_eq (string_bytes a) (string_bytes b)
same_entry (entry.Plain a) (entry.Keyword b) = false
same_entry (entry.Plain a) (entry.Fresh b n) = false
same_entry (entry.Keyword a) (entry.Plain b) = false
same_entry (entry.Keyword a) (entry.Keyword b) = bytes_eq (string_bytes a) (string_bytes b)
same_entry (entry.Keyword a) (entry.Fresh b n) = false
same_entry (entry.Fresh a m) (entry.Plain b) = false
same_entry (entry.Fresh a m) (entry.Keyword b) = false
same_entry (entry.Fresh a m) (entry.Fresh b n) = bytes_eq (string_bytes a) (string_bytes b) && nat_eq m n
