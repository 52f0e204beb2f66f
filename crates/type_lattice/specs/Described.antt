-- What a type specifier says of a value, and what a set of values must hold for it (ANSI Common Lisp 4.2.3).
use Rattle.std.specs.Prelude.{◌≡◌, ℕ, ◌<◌, Bool, true, length, Option, Some, None}
use Rattle.std.specs.Option.{option_map}
use Rattle.lisp_base.specs.declared.values.Val.{Val}
use Rattle.lisp_base.specs.declared.values.Val.TheVariants.{Int, Char, Sym, Ref}
use Rattle.lisp_base.specs.declared.values.SymKind.{SymKind}
use Rattle.lisp_base.specs.declared.values.SymKind.TheVariants as symbol_kinds
use Rattle.lisp_base.specs.Sort.{ObjectKind, ConsObject, VectorObject, StringObject, FunctionObject, CellObject, number_of, index_of}
use Rattle.lisp_base.specs.Spec.{Spec, Specs}
use Rattle.lisp_base.specs.Membership.{KindAt, SymbolKind, has, has_all, has_some}
use Rattle.lisp_base.specs.Tables.{Table}
use Rattle.lisp_base.specs.Kinds.{symbol_kinds_of}
use Rattle.type_lattice.specs.declared.ty.Ty.{Ty}
use Rattle.type_lattice.specs.declared.walk.Combination.{Combination}
use Rattle.type_lattice.specs.declared.walk.Combination.TheVariants.{Union, Meet}
use Rattle.type_lattice.specs.Values.{Value, Integer, Character, Symbol, Cons, Vector, Text, Function, is_value}
use Rattle.type_lattice.specs.Members.{is_in}

-- ---- values as a set sees them

abbrev pub symbol_value : ℕ → Option SymKind → Option Value
symbol_value n kind = option_map (λ k. Symbol k n) kind

-- cells are no values
abbrev pub object_value : Option ObjectKind → Option Value
object_value None = None
object_value (Some ConsObject) = Some Cons
object_value (Some VectorObject) = Some Vector
object_value (Some StringObject) = Some Text
object_value (Some FunctionObject) = Some Function
object_value (Some CellObject) = None

-- a value of the language by what a store and a symbol table say of it
abbrev pub value_of : KindAt → SymbolKind → Val → Option Value
value_of objects symbols (Int z) = Some (Integer z)
value_of objects symbols (Char c) = Some (Character c)
value_of objects symbols (Sym s) = symbol_value (number_of s) (symbols (number_of s))
value_of objects symbols (Ref o) = object_value (objects (index_of o))

-- ---- the set of a specifier

-- kinds of symbols by numbers that hold those of a table; NIL and T are plain
pub record IsOver (table : Table) (symbols : SymbolKind) : Type 0 where
  pub nil_plain : symbols 0 ≡ Some symbol_kinds.Plain
  pub truth_plain : symbols 1 ≡ Some symbol_kinds.Plain
  pub keeps : (n : ℕ) → n < length table.symbols → symbols n ≡ symbol_kinds_of table n

-- a set holds what a specifier does, in each store and with each symbol table that goes on from this one
abbrev pub Describes : Table → Spec → Ty → Type 0
Describes table spec t =
    (objects : KindAt) (symbols : SymbolKind) → IsOver table symbols → (v : Val) (x : Value) →
    value_of objects symbols v ≡ Some x → is_value x ≡ true → is_in t x ≡ has objects symbols spec v

-- the same for the parts of a conjunction or a disjunction
abbrev pub has_combined : Combination → KindAt → SymbolKind → Specs → Val → Bool
has_combined Meet objects symbols specs v = has_all objects symbols specs v
has_combined Union objects symbols specs v = has_some objects symbols specs v

abbrev pub DescribesAll : Combination → Table → Specs → Ty → Type 0
DescribesAll how table specs t =
    (objects : KindAt) (symbols : SymbolKind) → IsOver table symbols → (v : Val) (x : Value) →
    value_of objects symbols v ≡ Some x → is_value x ≡ true → is_in t x ≡ has_combined how objects symbols specs v
