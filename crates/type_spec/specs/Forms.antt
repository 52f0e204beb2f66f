-- Forms as type specifiers read them: conses of a heap and names of a symbol table (ANSI Common Lisp 4.2.3).
use Rattle.std.specs.Prelude.{ℕ, ℤ, pos, negsuc, Bool, ◌&&◌, int_le, List, codes, Option, Some, None, if◌then◌else◌, slice_get}
use Rattle.std.specs.Option.{option_and_then}
use Rattle.std.specs.Str.{bytes_eq}
use Rattle.lisp_base.specs.declared.values.Val.{Val}
use Rattle.lisp_base.specs.declared.values.Val.TheVariants.{Int, Char, Sym, Ref}
use Rattle.lisp_base.specs.declared.values.SymKind.{SymKind}
use Rattle.lisp_base.specs.declared.values.SymKind.TheVariants as symbol_kinds
use Rattle.lisp_base.specs.declared.types.TypeName.{TypeName}
use Rattle.lisp_base.specs.declared.types.TypeName.TheVariants as name
use Rattle.lisp_base.specs.declared.types.Bound.{Bound}
use Rattle.lisp_base.specs.declared.types.Bound.TheVariants as bound
use Rattle.lisp_base.specs.Sort.{number_of, index_of}
use Rattle.lisp_base.specs.Membership.{is_symbol_number}
use Rattle.lisp_base.specs.Tables.{Table, Symbol, Object, Cons, Vector, Str, Fun, Cell}
use Rattle.lisp_base.specs.Lawful.{is_integer_value, is_width, is_item}
use Rattle.type_spec.specs.declared.words.Operator.{Operator}
use Rattle.type_spec.specs.declared.words.Operator.TheVariants as op

-- ---- conses

abbrev pub cons_parts : Option Object → Option (Val × Val)
cons_parts None = None
cons_parts (Some (Cons car cdr place)) = Some (car, cdr)
cons_parts (Some (Vector items)) = None
cons_parts (Some (Str letters)) = None
cons_parts (Some (Fun lambda cells)) = None
cons_parts (Some (Cell v)) = None

-- the CAR and the CDR of a cons
abbrev pub cons_at : List Object → Val → Option (Val × Val)
cons_at heap (Int z) = None
cons_at heap (Char c) = None
cons_at heap (Sym s) = None
cons_at heap (Ref o) = cons_parts (slice_get heap (index_of o))

abbrev pub is_nil : Val → Bool
is_nil v = is_symbol_number 0 v

-- the element of a list of one
abbrev pub only_of : List Object → Val → Option Val
only_of heap v = option_and_then (λ p. if is_nil p.1 then Some p.0 else None) (cons_at heap v)

-- ---- names

abbrev pub if_plain : SymKind → List ℕ → Option (List ℕ)
if_plain symbol_kinds.Plain name = Some name
if_plain symbol_kinds.Keyword name = None
if_plain symbol_kinds.Fresh name = None

abbrev pub plain_name : Option Symbol → Option (List ℕ)
plain_name None = None
plain_name (Some s) = if_plain s.kind s.name

-- the name of a plain symbol
abbrev pub word_at : Table → Val → Option (List ℕ)
word_at table (Int z) = None
word_at table (Char c) = None
word_at table (Sym s) = plain_name (slice_get table.symbols (number_of s))
word_at table (Ref o) = None

-- the operator of a name
unfoldable pub operator_of : List ℕ → Option Operator
operator_of w =
    if bytes_eq w (codes "INTEGER") then Some op.Integer else
    (if bytes_eq w (codes "SIGNED-BYTE") then Some op.Signed else
    (if bytes_eq w (codes "UNSIGNED-BYTE") then Some op.Unsigned else
    (if bytes_eq w (codes "MOD") then Some op.Mod else
    (if bytes_eq w (codes "MEMBER") then Some op.Member else
    (if bytes_eq w (codes "EQL") then Some op.Eql else
    (if bytes_eq w (codes "AND") then Some op.And else
    (if bytes_eq w (codes "OR") then Some op.Or else
    (if bytes_eq w (codes "NOT") then Some op.Not else None))))))))

abbrev pub operator_at : Table → Val → Option Operator
operator_at table v = option_and_then operator_of (word_at table v)

-- the type of a name
unfoldable pub number_type_of : List ℕ → Option TypeName
number_type_of w =
    if bytes_eq w (codes "INTEGER") then Some name.Integer else
    (if bytes_eq w (codes "NUMBER") then Some name.Number else
    (if bytes_eq w (codes "REAL") then Some name.Real else
    (if bytes_eq w (codes "RATIONAL") then Some name.Rational else
    (if bytes_eq w (codes "FIXNUM") then Some name.Fixnum else
    (if bytes_eq w (codes "BIT") then Some name.Bit else
    (if bytes_eq w (codes "UNSIGNED-BYTE") then Some name.UnsignedByte else None))))))

unfoldable pub atom_type_of : List ℕ → Option TypeName
atom_type_of w =
    if bytes_eq w (codes "T") then Some name.T else
    (if bytes_eq w (codes "NIL") then Some name.Nil else
    (if bytes_eq w (codes "CHARACTER") then Some name.Character else
    (if bytes_eq w (codes "BASE-CHAR") then Some name.BaseChar else
    (if bytes_eq w (codes "SYMBOL") then Some name.Symbol else
    (if bytes_eq w (codes "KEYWORD") then Some name.Keyword else
    (if bytes_eq w (codes "NULL") then Some name.Null else
    (if bytes_eq w (codes "BOOLEAN") then Some name.Boolean else
    (if bytes_eq w (codes "ATOM") then Some name.Atom else None))))))))

unfoldable pub object_type_of : List ℕ → Option TypeName
object_type_of w =
    if bytes_eq w (codes "CONS") then Some name.Cons else
    (if bytes_eq w (codes "LIST") then Some name.List else
    (if bytes_eq w (codes "SIMPLE-VECTOR") then Some name.SimpleVector else
    (if bytes_eq w (codes "SIMPLE-STRING") then Some name.SimpleString else
    (if bytes_eq w (codes "STRING") then Some name.String else
    (if bytes_eq w (codes "VECTOR") then Some name.Vector else
    (if bytes_eq w (codes "ARRAY") then Some name.Array else
    (if bytes_eq w (codes "SEQUENCE") then Some name.Sequence else
    (if bytes_eq w (codes "FUNCTION") then Some name.Function else None))))))))

abbrev pub first_of : {A : Type 0} → Option A → Option A → Option A
first_of (Some x) o = Some x
first_of None o = o

abbrev pub type_of : List ℕ → Option TypeName
type_of w = first_of (number_type_of w) (first_of (atom_type_of w) (object_type_of w))

abbrev pub type_at : Table → Val → Option TypeName
type_at table v = option_and_then type_of (word_at table v)

-- ---- numbers and items

abbrev pub width_of : Val → Option ℕ
width_of (Int (pos n)) = if is_width n then Some n else None
width_of (Int (negsuc n)) = None
width_of (Char c) = None
width_of (Sym s) = None
width_of (Ref o) = None

-- what MOD takes: an integer from 1 on
abbrev pub count_of : Val → Option ℤ
count_of (Int z) = if int_le (pos 1) z && is_integer_value z then Some z else None
count_of (Char c) = None
count_of (Sym s) = None
count_of (Ref o) = None

abbrev pub item_of : Table → Val → Option Val
item_of table v = if is_item table v then Some v else None

abbrev pub integer_of : Val → Option ℤ
integer_of (Int z) = if is_integer_value z then Some z else None
integer_of (Char c) = None
integer_of (Sym s) = None
integer_of (Ref o) = None

abbrev pub open_of : Option (List ℕ) → Option Bound
open_of None = None
open_of (Some w) = if bytes_eq w (codes "*") then Some bound.Open else None

-- a bound: a star, an integer, or an integer in a list
abbrev pub bound_of : List Object → Table → Val → Option Bound
bound_of heap table (Int z) = if is_integer_value z then Some (bound.At z) else None
bound_of heap table (Char c) = None
bound_of heap table (Sym s) = open_of (word_at table (Sym s))
bound_of heap table (Ref o) = option_and_then (λ z. Some (bound.Past z)) (option_and_then integer_of (only_of heap (Ref o)))

-- the upper bound, where it is the one element of a list, or the list is empty
abbrev pub upper_of : List Object → Table → Val → Option Bound
upper_of heap table v =
    if is_nil v then Some bound.Open else option_and_then (bound_of heap table) (only_of heap v)

-- the bounds that a list gives: none, the lower one, or both
abbrev pub bounds_of : List Object → Table → Val → Option (Bound × Bound)
bounds_of heap table v =
    if is_nil v then Some (bound.Open, bound.Open) else
    option_and_then (λ p. option_and_then (λ lo. option_and_then (λ hi. Some (lo, hi)) (upper_of heap table p.1)) (bound_of heap table p.0)) (cons_at heap v)
