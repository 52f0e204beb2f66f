-- What a type can tell of a value (ANSI Common Lisp 4.2), and where sets of values can change (this project's own).
use Rattle.std.specs.Prelude.{ℕ, ℤ, pos, negsuc, Bool, true, false, ◌&&◌, nat_lt, int_lt, int_le}
use Rattle.lisp_base.specs.declared.values.SymKind.{SymKind}
use Rattle.lisp_base.specs.Lawful.{least_integer, greatest_integer, is_integer_value, is_character_value}

-- a value: an integer, a character, a symbol by its kind and number, or an object of a kind
pub data Value : Type 0 where
  Integer : ℤ → Value
  Character : (code_point : ℕ) → Value
  Symbol : SymKind → (number : ℕ) → Value
  Cons Vector Text Function : Value

-- the values that the language has; symbols are unbounded in number
abbrev pub is_value : Value → Bool
is_value (Integer z) = is_integer_value z
is_value (Character c) = is_character_value c
is_value (Symbol kind number) = true
is_value Cons = true
is_value Vector = true
is_value Text = true
is_value Function = true

-- the values at which a set can change: each but the first of its kind
abbrev pub is_integer_border : ℤ → Bool
is_integer_border z = int_lt least_integer z && int_le z greatest_integer

abbrev pub is_character_border : ℤ → Bool
is_character_border (pos c) = nat_lt 0 c && is_character_value c
is_character_border (negsuc n) = false

abbrev pub is_symbol_border : ℤ → Bool
is_symbol_border (pos n) = nat_lt 0 n
is_symbol_border (negsuc n) = false
