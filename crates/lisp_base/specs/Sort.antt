-- Objects as a type test sees them, and single values, in the terms of the language.
use Rattle.std.specs.Prelude.{ℕ, ℤ, Bool, false, ◌==◌, ◌&&◌, int_le}
use Rattle.lisp_base.specs.declared.values.SymId.{SymId}
use Rattle.lisp_base.specs.declared.values.ObjId.{ObjId}
use Rattle.lisp_base.specs.declared.values.Val.{Val}
use Rattle.lisp_base.specs.declared.values.Val.TheVariants.{Int, Char, Sym, Ref}

-- the kind of an object
pub data ObjectKind : Type 0 where
  ConsObject VectorObject StringObject FunctionObject CellObject : ObjectKind

-- the symbol and the object of a number
abbrev pub symbol : ℕ → SymId
symbol n = record { 0 = n }

abbrev pub object : ℕ → ObjId
object n = record { 0 = n }

-- NIL, the false value and the empty list; T, the usual true value
abbrev pub nil : Val
nil = Sym (symbol 0)

abbrev pub truth : Val
truth = Sym (symbol 1)

abbrev pub number_of : SymId → ℕ
number_of s = s.0

abbrev pub index_of : ObjId → ℕ
index_of o = o.0

abbrev pub same_integer : ℤ → ℤ → Bool
same_integer a b = int_le a b && int_le b a

-- one and the same value: equal integers, characters or symbols, or one object
abbrev pub same : Val → Val → Bool
same (Int a) (Int b) = same_integer a b
same (Int a) (Char d) = false
same (Int a) (Sym t) = false
same (Int a) (Ref p) = false
same (Char c) (Int b) = false
same (Char c) (Char d) = c == d
same (Char c) (Sym t) = false
same (Char c) (Ref p) = false
same (Sym s) (Int b) = false
same (Sym s) (Char d) = false
same (Sym s) (Sym t) = number_of s == number_of t
same (Sym s) (Ref p) = false
same (Ref o) (Int b) = false
same (Ref o) (Char d) = false
same (Ref o) (Sym t) = false
same (Ref o) (Ref p) = index_of o == index_of p
