-- How the reader's stack is seen, and what its two tables keep (this project's own).
use Rattle.std.specs.Prelude.{◌≡◌, ℕ, ◌≤◌, List, [], ◌∷◌, ◌++◌, Option, Some, None, length, map}
use Rattle.lisp_base.specs.Tables.{Table, Object}
use Rattle.lisp_reader.specs.declared.level.Level.{Level as Kept}
use Rattle.lisp_reader.specs.declared.level.Level.TheVariants as l
use Rattle.lisp_reader.specs.declared.fault.ReadFault.{ReadFault}
use Rattle.lisp_reader.specs.declared.fault.ReadFault.TheVariants as fault
use Rattle.lisp_reader.specs.declared.fault.ReadKind.TheVariants.{TooManySymbols}
use Rattle.lisp_reader.specs.Tokens.{Token}
use Rattle.lisp_reader.specs.Reading.{Refusal, refusal, symbol_fault}
use Rattle.lisp_reader.specs.Machine.{Level, list_level, dot_level, tail_level, vector_level, prefix_level}

abbrev pub level_of : Kept → Level
level_of (l.List at items) = list_level at items.items
level_of (l.Dot at items) = dot_level at items.items
level_of (l.Tail at items tail) = tail_level at items.items tail
level_of (l.Vector at items) = vector_level at items.items
level_of (l.Prefix at f) = prefix_level at f

abbrev pub levels_of : List Kept → List Level
levels_of ls = map level_of ls

-- a list begins as it was
abbrev pub Grows : {X : Type 0} → (old new : List X) → Type 0
Grows {X} old new = (more : List X) × (new ≡ old ++ more)

-- the symbols and objects that were there are there, and no uninterned symbol came
pub record KeepsTable (before after : Table) : Type 0 where
  pub symbols : Grows before.symbols after.symbols
  pub fresh : after.fresh ≡ before.fresh

pub record KeepsAll (before : Table) (heap : List Object) (after : Table) (heap_after : List Object) : Type 0 where
  pub table : KeepsTable before after
  pub objects : Grows heap heap_after

-- a symbol is new, and the table is full
abbrev pub IsFull : Table → Token → Type 0
IsFull symbols t = symbol_fault symbols t ≡ Some TooManySymbols

-- the refusal that a fault is
abbrev pub fault_of : ReadFault → Option Refusal
fault_of (fault.Refused kind offset) = Some (refusal kind offset)
fault_of fault.Memory = None

-- how many elements a level has
abbrev pub item_count : Level → ℕ
item_count (list_level at vs) = length vs
item_count (dot_level at vs) = length vs
item_count (tail_level at vs v) = length vs
item_count (vector_level at vs) = length vs
item_count (prefix_level at f) = 0

-- no level has more than so many elements
abbrev pub AllShort : ℕ → List Level → Type 0
AllShort n [] = Unit {0}
AllShort n (l ∷ ls) = (item_count l ≤ n) × AllShort n ls
