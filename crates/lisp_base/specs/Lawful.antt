-- The values of the language, and the type specifiers that keep to it: ANSI Common Lisp 4.2.3, within the limits that are this project's own.
use Rattle.std.specs.Prelude.{◌≡◌, ℕ, ◌-◌, ◌^◌, ◌≤◌, ℤ, pos, negsuc, Bool, true, false, ◌&&◌, ◌||◌, nat_lt, nat_le, int_le, length}
use Rattle.std.specs.List.{list_all}
use Rattle.lisp_base.specs.declared.values.Val.{Val}
use Rattle.lisp_base.specs.declared.values.Val.TheVariants.{Int, Char, Sym, Ref}
use Rattle.lisp_base.specs.declared.types.Bound.{Bound}
use Rattle.lisp_base.specs.declared.types.Bound.TheVariants as bound
use Rattle.lisp_base.specs.Spec.{Spec, Named, Integer, Signed, Unsigned, Mod, Member, Eql, And, Or, Not, Specs, no_spec, spec, spec_size}
use Rattle.lisp_base.specs.Sort.{number_of}
use Rattle.lisp_base.specs.Tables.{Table}

-- ---- integers and characters

unfoldable pub least_integer : ℤ
least_integer = negsuc (2 ^ 63 - 1)

unfoldable pub greatest_integer : ℤ
greatest_integer = pos (2 ^ 63 - 1)

abbrev pub is_integer_value : ℤ → Bool
is_integer_value z = int_le least_integer z && int_le z greatest_integer

-- code points without those of surrogates
unfoldable pub is_character_value : ℕ → Bool
is_character_value c = nat_lt c 0xD800 || (nat_le 0xE000 c && nat_le c 0x10FFFF)

-- ---- type specifiers

-- what MEMBER and EQL may list: an integer, a character, or a symbol of the table
abbrev pub is_item : Table → Val → Bool
is_item table (Int z) = is_integer_value z
is_item table (Char c) = is_character_value c
is_item table (Sym s) = nat_lt (number_of s) (length table.symbols)
is_item table (Ref o) = false

abbrev pub is_bound : Bound → Bool
is_bound bound.Open = true
is_bound (bound.At z) = is_integer_value z
is_bound (bound.Past z) = is_integer_value z

-- a number of bits
abbrev pub is_width : ℕ → Bool
is_width bits = nat_le 1 bits && nat_le bits 127

abbrev mutual
  -- every number and item is one that may be written there
  pub has_lawful_parts : Table → Spec → Bool
  has_lawful_parts table (Named name) = true
  has_lawful_parts table (Integer lo hi) = is_bound lo && is_bound hi
  has_lawful_parts table (Signed bits) = is_width bits
  has_lawful_parts table (Unsigned bits) = is_width bits
  has_lawful_parts table (Mod n) = int_le (pos 1) n && is_integer_value n
  has_lawful_parts table (Member items) = list_all (is_item table) items
  has_lawful_parts table (Eql item) = is_item table item
  has_lawful_parts table (And specs) = all_lawful_parts table specs
  has_lawful_parts table (Or specs) = all_lawful_parts table specs
  has_lawful_parts table (Not part) = has_lawful_parts table part

  pub all_lawful_parts : Table → Specs → Bool
  all_lawful_parts table no_spec = true
  all_lawful_parts table (spec t ts) = has_lawful_parts table t && all_lawful_parts table ts

-- how many nodes and items a specifier may have
unfoldable pub most_parts : ℕ
most_parts = 4000

pub record IsLawful (table : Table) (t : Spec) : Type 0 where
  pub parts : has_lawful_parts table t ≡ true
  pub size : spec_size t ≤ most_parts
