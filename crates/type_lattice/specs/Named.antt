-- The sets that the parts of type specifiers mean, by what a set can tell of a value (ANSI Common Lisp 4.2.3).
use Rattle.std.specs.Prelude.{◌≡◌, ℕ, ◌-◌, ◌^◌, ℤ, pos, negsuc, Bool, true, false, not, ◌&&◌, ◌||◌, nat_lt, int_le}
use Rattle.lisp_base.specs.declared.values.SymKind.TheVariants as symbol_kinds
use Rattle.lisp_base.specs.declared.types.TypeName.{TypeName}
use Rattle.lisp_base.specs.declared.types.TypeName.TheVariants as name
use Rattle.lisp_base.specs.Lawful.{greatest_integer}
use Rattle.type_lattice.specs.declared.kinds.Kinds.{Kinds}
use Rattle.type_lattice.specs.declared.ranges.Ranges.{Ranges}
use Rattle.type_lattice.specs.declared.ty.Ty.{Ty}
use Rattle.type_lattice.specs.Values.{Value, Integer, Character, Symbol, Cons, Vector, Text, Function, is_value}
use Rattle.type_lattice.specs.Members.{holds, is_in}

-- a set holds the values of the language that pass a test
abbrev pub HoldsWhere : Ty → (Value → Bool) → Type 0
HoldsWhere t test = (v : Value) → is_value v ≡ true → is_in t v ≡ test v

-- ---- kinds of values

abbrev pub is_integer : Value → Bool
is_integer (Integer z) = true
is_integer (Character c) = false
is_integer (Symbol kind n) = false
is_integer Cons = false
is_integer Vector = false
is_integer Text = false
is_integer Function = false

abbrev pub is_between : ℤ → ℤ → Value → Bool
is_between first last (Integer z) = int_le first z && int_le z last
is_between first last (Character c) = false
is_between first last (Symbol kind n) = false
is_between first last Cons = false
is_between first last Vector = false
is_between first last Text = false
is_between first last Function = false

abbrev pub is_letter_of : Ranges → Value → Bool
is_letter_of r (Integer z) = false
is_letter_of r (Character c) = holds r (pos c)
is_letter_of r (Symbol kind n) = false
is_letter_of r Cons = false
is_letter_of r Vector = false
is_letter_of r Text = false
is_letter_of r Function = false

abbrev pub is_letter : Value → Bool
is_letter (Integer z) = false
is_letter (Character c) = true
is_letter (Symbol kind n) = false
is_letter Cons = false
is_letter Vector = false
is_letter Text = false
is_letter Function = false

abbrev pub is_symbol_of : (symbols keywords : Ranges) → Value → Bool
is_symbol_of rs ks (Integer z) = false
is_symbol_of rs ks (Character c) = false
is_symbol_of rs ks (Symbol symbol_kinds.Plain n) = holds rs (pos n)
is_symbol_of rs ks (Symbol symbol_kinds.Keyword n) = holds ks (pos n)
is_symbol_of rs ks (Symbol symbol_kinds.Fresh n) = holds rs (pos n)
is_symbol_of rs ks Cons = false
is_symbol_of rs ks Vector = false
is_symbol_of rs ks Text = false
is_symbol_of rs ks Function = false

abbrev pub is_symbol : Value → Bool
is_symbol (Integer z) = false
is_symbol (Character c) = false
is_symbol (Symbol kind n) = true
is_symbol Cons = false
is_symbol Vector = false
is_symbol Text = false
is_symbol Function = false

abbrev pub is_keyword : Value → Bool
is_keyword (Integer z) = false
is_keyword (Character c) = false
is_keyword (Symbol symbol_kinds.Plain n) = false
is_keyword (Symbol symbol_kinds.Keyword n) = true
is_keyword (Symbol symbol_kinds.Fresh n) = false
is_keyword Cons = false
is_keyword Vector = false
is_keyword Text = false
is_keyword Function = false

-- one of the first so many symbols that is no keyword
abbrev pub is_early : ℕ → Value → Bool
is_early count (Integer z) = false
is_early count (Character c) = false
is_early count (Symbol symbol_kinds.Plain n) = nat_lt n count
is_early count (Symbol symbol_kinds.Keyword n) = false
is_early count (Symbol symbol_kinds.Fresh n) = nat_lt n count
is_early count Cons = false
is_early count Vector = false
is_early count Text = false
is_early count Function = false

abbrev pub is_of : Kinds → Value → Bool
is_of kinds (Integer z) = false
is_of kinds (Character c) = false
is_of kinds (Symbol kind n) = false
is_of kinds Cons = kinds.conses
is_of kinds Vector = kinds.vectors
is_of kinds Text = kinds.strings
is_of kinds Function = kinds.functions

-- ---- the named types

abbrev pub kinds : (conses vectors strings functions : Bool) → Kinds
kinds conses vectors strings functions = record { conses = conses; vectors = vectors; strings = strings; functions = functions }

unfoldable pub fixnum_bound : ℕ
fixnum_bound = 2 ^ 61

abbrev pub named : TypeName → Value → Bool
named name.T v = true
named name.Nil v = false
named name.Integer v = is_integer v
named name.Number v = is_integer v
named name.Real v = is_integer v
named name.Rational v = is_integer v
named name.Fixnum v = is_between (negsuc (fixnum_bound - 1)) (pos (fixnum_bound - 1)) v
named name.Bit v = is_between (pos 0) (pos 1) v
named name.UnsignedByte v = is_between (pos 0) greatest_integer v
named name.Character v = is_letter v
named name.BaseChar v = is_letter v
named name.Symbol v = is_symbol v
named name.Keyword v = is_keyword v
named name.Null v = is_early 1 v
named name.Boolean v = is_early 2 v
named name.Cons v = is_of (kinds true false false false) v
named name.List v = is_of (kinds true false false false) v || is_early 1 v
named name.Atom v = not (is_of (kinds true false false false) v)
named name.SimpleVector v = is_of (kinds false true false false) v
named name.SimpleString v = is_of (kinds false false true false) v
named name.String v = is_of (kinds false false true false) v
named name.Vector v = is_of (kinds false true true false) v
named name.Array v = is_of (kinds false true true false) v
named name.Sequence v = is_of (kinds true true true false) v || is_early 1 v
named name.Function v = is_of (kinds false false false true) v
