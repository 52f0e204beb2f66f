-- The symbol table and the heap as lists (this project's own).
use Rattle.std.specs.Prelude.{◌≡◌, ℕ, ◌+◌, Bool, true, false, ◌&&◌, List, [], ◌∷◌, ◌++◌, Option, Some, None, if◌then◌else◌, length, map, nat_lt, codes, decimal}
use Rattle.std.specs.List.{position, position_or_len}
use Rattle.std.specs.Str.{bytes_eq}
use Rattle.lisp_base.specs.declared.values.SymKind.{SymKind}
use Rattle.lisp_base.specs.declared.values.SymKind.TheVariants as kinds
use Rattle.lisp_base.specs.declared.values.SymId.{SymId}
use Rattle.lisp_base.specs.declared.values.ObjId.{ObjId}
use Rattle.lisp_base.specs.declared.values.Val.{Val}
use Rattle.lisp_base.specs.declared.values.Place.{Place}
use Rattle.lisp_base.specs.declared.values.Obj.{Obj}
use Rattle.lisp_base.specs.declared.values.Obj.TheVariants as obj
use Rattle.lisp_base.specs.Sort.{symbol}
use Rattle.lisp_base.specs.BaseNames.{base_names}

-- ---- symbols

-- a symbol: its name in UTF-8, and what it is
pub record Symbol : Type 0 where
  pub name : List ℕ
  pub kind : SymKind

abbrev pub make_symbol : List ℕ → SymKind → Symbol
make_symbol name kind = record { name = name; kind = kind }

-- a table: its symbols in order of first use, and how many uninterned ones came since it was made or restarted
pub record Table : Type 0 where
  pub symbols : List Symbol
  pub fresh : ℕ

abbrev pub make_table : List Symbol → ℕ → Table
make_table symbols fresh = record { symbols = symbols; fresh = fresh }

-- how many symbols a table can have
unfoldable pub most_symbols : ℕ
most_symbols = 65536

abbrev pub same_symbol_kind : SymKind → SymKind → Bool
same_symbol_kind kinds.Plain kinds.Plain = true
same_symbol_kind kinds.Plain kinds.Keyword = false
same_symbol_kind kinds.Plain kinds.Fresh = false
same_symbol_kind kinds.Keyword kinds.Plain = false
same_symbol_kind kinds.Keyword kinds.Keyword = true
same_symbol_kind kinds.Keyword kinds.Fresh = false
same_symbol_kind kinds.Fresh kinds.Plain = false
same_symbol_kind kinds.Fresh kinds.Keyword = false
same_symbol_kind kinds.Fresh kinds.Fresh = true

-- whether a symbol has this name and is of this kind
abbrev pub is_symbol : List ℕ → SymKind → Symbol → Bool
is_symbol name kind s = bytes_eq name s.name && same_symbol_kind kind s.kind

-- whether symbols of this kind are found by their names
abbrev pub is_interned : SymKind → Bool
is_interned kinds.Plain = true
is_interned kinds.Keyword = true
is_interned kinds.Fresh = false

-- the table with one more symbol, where there is room
abbrev pub added : Symbol → ℕ → Table → Option (SymId × Table)
added s fresh t =
    if nat_lt (length t.symbols) most_symbols
    then Some (symbol (length t.symbols), make_table (t.symbols ++ s ∷ []) fresh)
    else None

abbrev pub found_or_added : Option ℕ → Symbol → Table → Option (SymId × Table)
found_or_added (Some n) s t = Some (symbol n, t)
found_or_added None s t = added s t.fresh t

-- the symbol of this name and kind, and the table after its use: it is added last where it is new
abbrev pub interned : List ℕ → SymKind → Table → Option (SymId × Table)
interned name kind t = found_or_added (position (is_symbol name kind) t.symbols) (make_symbol name kind) t

-- the name of the nth uninterned symbol: G1, G2, ..
abbrev pub fresh_name : ℕ → List ℕ
fresh_name n = codes "G" ++ decimal n

-- a new uninterned symbol
abbrev pub made_fresh : Table → Option (SymId × Table)
made_fresh t = added (make_symbol (fresh_name (t.fresh + 1)) kinds.Fresh) (t.fresh + 1) t

-- the next uninterned symbol is G1 again
abbrev pub restarted : Table → Table
restarted t = make_table t.symbols 0

abbrev pub plain_symbol : List ℕ → Symbol
plain_symbol name = make_symbol name kinds.Plain

-- the symbols of the base names, in their order
abbrev pub base_symbols : List Symbol
base_symbols = map plain_symbol base_names

-- the table to begin with
abbrev pub first_table : Table
first_table = make_table base_symbols 0

-- a list of symbols, as each table's, that begins with those of the base names
abbrev pub BeginsWithNames : List Symbol → Type 0
BeginsWithNames symbols = (others : List Symbol) × (symbols ≡ base_symbols ++ others)

-- the symbol of a base name, by its place among them; any other name gives one that no table begins with
abbrev pub base_symbol : List ℕ → SymId
base_symbol name = symbol (position_or_len (bytes_eq name) base_names)

-- ---- objects

-- an object of the heap
pub data Object : Type 0 where
  Cons : (car cdr : Val) (place : Option Place) → Object
  Vector : List Val → Object
  Str : List ℕ → Object
  Fun : (lambda : ℕ) (cells : List ObjId) → Object
  Cell : Val → Object

abbrev pub object_of : Obj → Object
object_of (obj.Cons car cdr place) = Cons car cdr place
object_of (obj.Vector items) = Vector items.items
object_of (obj.Str letters) = Str letters.items
object_of (obj.Fun lambda cells) = Fun lambda cells.items
object_of (obj.Cell v) = Cell v
