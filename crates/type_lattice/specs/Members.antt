-- Which values a set of values holds (this project's own).
use Rattle.std.specs.Prelude.{◌≡◌, ℤ, pos, Bool, true, false, not, ◌&&◌, ◌||◌}
use Rattle.lisp_base.specs.declared.values.SymKind.TheVariants as symbol_kinds
use Rattle.type_lattice.specs.declared.ranges.Ranges.{Ranges}
use Rattle.type_lattice.specs.declared.kinds.Kinds.{Kinds}
use Rattle.type_lattice.specs.declared.ty.Ty.{Ty}
use Rattle.type_lattice.specs.Borders.{is_within}
use Rattle.type_lattice.specs.Values.{Value, Integer, Character, Symbol, Cons, Vector, Text, Function, is_value}

abbrev pub holds : Ranges → ℤ → Bool
holds r z = is_within r.below r.borders.items z

-- uninterned symbols are among the plain ones
abbrev pub is_in : Ty → Value → Bool
is_in t (Integer z) = holds t.integers z
is_in t (Character c) = holds t.characters (pos c)
is_in t (Symbol symbol_kinds.Plain n) = holds t.symbols (pos n)
is_in t (Symbol symbol_kinds.Keyword n) = holds t.keywords (pos n)
is_in t (Symbol symbol_kinds.Fresh n) = holds t.symbols (pos n)
is_in t Cons = t.kinds.conses
is_in t Vector = t.kinds.vectors
is_in t Text = t.kinds.strings
is_in t Function = t.kinds.functions

-- a value of the language that is in the first set and not in the second
pub record HasMore (a b : Ty) : Type 0 where
  pub value : Value
  pub lawful : is_value value ≡ true
  pub within : is_in a value ≡ true
  pub without : is_in b value ≡ false

abbrev pub kinds_within : Kinds → Kinds → Bool
kinds_within a b =
    (not a.conses || b.conses) && (not a.vectors || b.vectors) && (not a.strings || b.strings) &&
    (not a.functions || b.functions)
