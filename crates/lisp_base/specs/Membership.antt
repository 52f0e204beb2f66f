-- Which values a type specifier holds (ANSI Common Lisp 4.2.3 and the entries of the types).
use Rattle.std.specs.Prelude.{ℕ, zero, suc, ◌-◌, ◌^◌, ℤ, pos, negsuc, Bool, true, false, not, ◌&&◌, ◌||◌, ◌==◌, int_le, int_lt, List, [], ◌∷◌, Option, Some, None}
use Rattle.lisp_base.specs.declared.values.Val.{Val}
use Rattle.lisp_base.specs.declared.values.Val.TheVariants.{Int, Char, Sym, Ref}
use Rattle.lisp_base.specs.declared.values.SymKind.{SymKind}
use Rattle.lisp_base.specs.declared.values.SymKind.TheVariants as symbol_kinds
use Rattle.lisp_base.specs.declared.types.TypeName.{TypeName}
use Rattle.lisp_base.specs.declared.types.TypeName.TheVariants as name
use Rattle.lisp_base.specs.declared.types.Bound.{Bound}
use Rattle.lisp_base.specs.declared.types.Bound.TheVariants as bound
use Rattle.lisp_base.specs.Sort.{ObjectKind, ConsObject, VectorObject, StringObject, FunctionObject, CellObject, number_of, index_of, same}
use Rattle.lisp_base.specs.Spec.{Spec, Named, Integer, Signed, Unsigned, Mod, Member, Eql, And, Or, Not, Specs, no_spec, spec}

-- what a store says of its objects and a symbol table of its symbols, by their numbers
abbrev pub KindAt : Type 0
KindAt = ℕ → Option ObjectKind

abbrev pub SymbolKind : Type 0
SymbolKind = ℕ → Option SymKind

-- ---- the kinds of values

abbrev pub is_integer : Val → Bool
is_integer (Int z) = true
is_integer (Char c) = false
is_integer (Sym s) = false
is_integer (Ref o) = false

abbrev pub is_character : Val → Bool
is_character (Int z) = false
is_character (Char c) = true
is_character (Sym s) = false
is_character (Ref o) = false

abbrev pub is_symbol : Val → Bool
is_symbol (Int z) = false
is_symbol (Char c) = false
is_symbol (Sym s) = true
is_symbol (Ref o) = false

abbrev pub keyword_kind : Option SymKind → Bool
keyword_kind None = false
keyword_kind (Some symbol_kinds.Plain) = false
keyword_kind (Some symbol_kinds.Keyword) = true
keyword_kind (Some symbol_kinds.Fresh) = false

abbrev pub is_keyword : SymbolKind → Val → Bool
is_keyword kinds (Int z) = false
is_keyword kinds (Char c) = false
is_keyword kinds (Sym s) = keyword_kind (kinds (number_of s))
is_keyword kinds (Ref o) = false

-- NIL is symbol 0 and T is symbol 1
abbrev pub is_symbol_number : ℕ → Val → Bool
is_symbol_number n (Int z) = false
is_symbol_number n (Char c) = false
is_symbol_number n (Sym s) = number_of s == n
is_symbol_number n (Ref o) = false

abbrev pub same_kind : ObjectKind → ObjectKind → Bool
same_kind ConsObject ConsObject = true
same_kind ConsObject VectorObject = false
same_kind ConsObject StringObject = false
same_kind ConsObject FunctionObject = false
same_kind ConsObject CellObject = false
same_kind VectorObject ConsObject = false
same_kind VectorObject VectorObject = true
same_kind VectorObject StringObject = false
same_kind VectorObject FunctionObject = false
same_kind VectorObject CellObject = false
same_kind StringObject ConsObject = false
same_kind StringObject VectorObject = false
same_kind StringObject StringObject = true
same_kind StringObject FunctionObject = false
same_kind StringObject CellObject = false
same_kind FunctionObject ConsObject = false
same_kind FunctionObject VectorObject = false
same_kind FunctionObject StringObject = false
same_kind FunctionObject FunctionObject = true
same_kind FunctionObject CellObject = false
same_kind CellObject ConsObject = false
same_kind CellObject VectorObject = false
same_kind CellObject StringObject = false
same_kind CellObject FunctionObject = false
same_kind CellObject CellObject = true

abbrev pub of_kind : ObjectKind → Option ObjectKind → Bool
of_kind k None = false
of_kind k (Some l) = same_kind k l

abbrev pub is_object : ObjectKind → KindAt → Val → Bool
is_object k kinds (Int z) = false
is_object k kinds (Char c) = false
is_object k kinds (Sym s) = false
is_object k kinds (Ref o) = of_kind k (kinds (index_of o))

abbrev pub is_list : KindAt → Val → Bool
is_list kinds v = is_object ConsObject kinds v || is_symbol_number 0 v

-- ---- ranges of integers

abbrev pub above : Bound → ℤ → Bool
above bound.Open z = true
above (bound.At n) z = int_le n z
above (bound.Past n) z = int_lt n z

abbrev pub below : Bound → ℤ → Bool
below bound.Open z = true
below (bound.At n) z = int_le z n
below (bound.Past n) z = int_lt z n

abbrev pub in_range : Bound → Bound → Val → Bool
in_range lo hi (Int z) = above lo z && below hi z
in_range lo hi (Char c) = false
in_range lo hi (Sym s) = false
in_range lo hi (Ref o) = false

-- the least integer of so many bits in two's complement; 0 bits have 0 alone
abbrev pub least_signed : ℕ → ℤ
least_signed zero = pos 0
least_signed (suc n) = negsuc (2 ^ n - 1)

-- the least integer above those of so many bits
abbrev pub past_signed : ℕ → ℤ
past_signed zero = pos 1
past_signed (suc n) = pos (2 ^ n)

abbrev pub is_signed : ℕ → Val → Bool
is_signed bits v = in_range (bound.At (least_signed bits)) (bound.Past (past_signed bits)) v

abbrev pub is_unsigned : ℕ → Val → Bool
is_unsigned bits v = in_range (bound.At (pos 0)) (bound.Past (pos (2 ^ bits))) v

-- ---- the types

abbrev pub has_named : KindAt → SymbolKind → TypeName → Val → Bool
has_named kinds symbols name.T v = true
has_named kinds symbols name.Nil v = false
has_named kinds symbols name.Integer v = is_integer v
has_named kinds symbols name.Number v = is_integer v
has_named kinds symbols name.Real v = is_integer v
has_named kinds symbols name.Rational v = is_integer v
has_named kinds symbols name.Fixnum v = is_signed 62 v
has_named kinds symbols name.Bit v = is_unsigned 1 v
has_named kinds symbols name.UnsignedByte v = in_range (bound.At (pos 0)) bound.Open v
has_named kinds symbols name.Character v = is_character v
has_named kinds symbols name.BaseChar v = is_character v
has_named kinds symbols name.Symbol v = is_symbol v
has_named kinds symbols name.Keyword v = is_keyword symbols v
has_named kinds symbols name.Null v = is_symbol_number 0 v
has_named kinds symbols name.Boolean v = is_symbol_number 0 v || is_symbol_number 1 v
has_named kinds symbols name.Cons v = is_object ConsObject kinds v
has_named kinds symbols name.List v = is_list kinds v
has_named kinds symbols name.Atom v = not (is_object ConsObject kinds v)
has_named kinds symbols name.SimpleVector v = is_object VectorObject kinds v
has_named kinds symbols name.SimpleString v = is_object StringObject kinds v
has_named kinds symbols name.String v = is_object StringObject kinds v
has_named kinds symbols name.Vector v = is_object VectorObject kinds v || is_object StringObject kinds v
has_named kinds symbols name.Array v = is_object VectorObject kinds v || is_object StringObject kinds v
has_named kinds symbols name.Sequence v =
    is_object VectorObject kinds v || is_object StringObject kinds v || is_list kinds v
has_named kinds symbols name.Function v = is_object FunctionObject kinds v

abbrev pub is_one_of : List Val → Val → Bool
is_one_of [] v = false
is_one_of (item ∷ items) v = same item v || is_one_of items v

abbrev mutual
  -- whether a type holds a value
  pub has : KindAt → SymbolKind → Spec → Val → Bool
  has kinds symbols (Named name) v = has_named kinds symbols name v
  has kinds symbols (Integer lo hi) v = in_range lo hi v
  has kinds symbols (Signed bits) v = is_signed bits v
  has kinds symbols (Unsigned bits) v = is_unsigned bits v
  has kinds symbols (Mod n) v = in_range (bound.At (pos 0)) (bound.Past n) v
  has kinds symbols (Member items) v = is_one_of items v
  has kinds symbols (Eql item) v = same item v
  has kinds symbols (And specs) v = has_all kinds symbols specs v
  has kinds symbols (Or specs) v = has_some kinds symbols specs v
  has kinds symbols (Not t) v = not (has kinds symbols t v)

  pub has_all : KindAt → SymbolKind → Specs → Val → Bool
  has_all kinds symbols no_spec v = true
  has_all kinds symbols (spec t ts) v = has kinds symbols t v && has_all kinds symbols ts v

  pub has_some : KindAt → SymbolKind → Specs → Val → Bool
  has_some kinds symbols no_spec v = false
  has_some kinds symbols (spec t ts) v = has kinds symbols t v || has_some kinds symbols ts v
