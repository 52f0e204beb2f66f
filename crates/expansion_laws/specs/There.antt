-- What is there: values, symbols and types of a symbol table and a heap, and the trees and worlds that hold no others. (This project's own.)
use Rattle.std.specs.Prelude.{◌≡◌, ℕ, ◌<◌, ◌≤◌, true, List, [], ◌∷◌, ◌++◌, length, map, slice_get, All, Contains, Option, Some, None}
use Rattle.std.specs.Char.{IsScalar}
use Rattle.lisp_base.specs.declared.values.Place.{Place}
use Rattle.lisp_base.specs.declared.values.Place.TheVariants as places
use Rattle.lisp_base.specs.declared.values.SymId.{SymId}
use Rattle.lisp_base.specs.declared.values.Val.{Val}
use Rattle.lisp_base.specs.declared.values.Val.TheVariants.{Int, Char, Sym, Ref}
use Rattle.lisp_base.specs.Sort.{number_of, index_of}
use Rattle.lisp_base.specs.Spec.{Spec}
use Rattle.lisp_base.specs.Lawful.{IsLawful as IsLawfulType}
use Rattle.lisp_base.specs.Tables.{Symbol, Table, Object, Cons, Vector, Str, Fun, Cell, BeginsWithNames}
use Rattle.core_form.specs.Tree.{Core, Top}
use Rattle.core_form.specs.Primitives.{in_range, greatest_length}
use Rattle.core_form.specs.Eval.{Program}
use Rattle.core_form.specs.Lawful.{symbol_of, object_of, top_symbols, tree_symbols, types_in, quoted, tags_in, is_tag, IsDatum, Reaches}
use Rattle.declarations.specs.Declarations.{Typed}
use Rattle.expansion.specs.declared.heads.Target.{Target}
use Rattle.expansion.specs.declared.heads.Target.TheVariants.{Lexical, Global}
use Rattle.expansion.specs.Scopes.{Scope, Check, of_binding, of_uses, rebound}
use Rattle.expansion.specs.Steps.{World, gives}
use Rattle.expansion.specs.Expanding.{expand}

-- ---- tables and heaps

-- a symbol table and a heap
pub record Stores : Type 0 where
  pub table : Table
  pub heap : List Object

abbrev pub stores : Table → List Object → Stores
stores table heap = record { table = table; heap = heap }

abbrev pub stores_of : World → Stores
stores_of w = stores w.table w.heap

-- the table begins with the base names
pub record AreSound (s : Stores) : Type 0 where
  pub begins : BeginsWithNames s.table.symbols

-- a table and a heap that begin with others
pub record Grown (old new : Stores) : Type 0 where
  pub symbols : (more : List Symbol) × (new.table.symbols ≡ old.table.symbols ++ more)
  pub objects : (more : List Object) × (new.heap ≡ old.heap ++ more)

-- ---- symbols, types and places

abbrev pub SymbolIsThere : Stores → SymId → Type 0
SymbolIsThere s x = number_of x < length s.table.symbols

-- a type that may be written with the symbols of the table
abbrev pub TypeIsThere : Stores → Spec → Type 0
TypeIsThere s t = IsLawfulType s.table t

abbrev pub PlaceIsThere : Stores → Place → Type 0
PlaceIsThere s (places.File offset tail) = Unit {0}
PlaceIsThere s (places.Prelude name) = SymbolIsThere s name

abbrev pub PlaceMayBe : Stores → Option Place → Type 0
PlaceMayBe s None = Unit {0}
PlaceMayBe s (Some place) = PlaceIsThere s place

-- ---- values

-- the values in a cons or vector
abbrev pub values_within : Option Object → List Val
values_within None = []
values_within (Some (Cons car cdr place)) = car ∷ cdr ∷ []
values_within (Some (Vector items)) = items
values_within (Some (Str letters)) = []
values_within (Some (Fun lambda cells)) = []
values_within (Some (Cell v)) = []

abbrev pub values_at : List Object → Val → List Val
values_at heap (Int z) = []
values_at heap (Char c) = []
values_at heap (Sym x) = []
values_at heap (Ref o) = values_within (slice_get heap (index_of o))

-- what a value reaches through conses and vectors, itself included
pub data Reached (heap : List Object) (v : Val) : Val → Type 0 where
  itself : Reached heap v v
  within : (u w : Val) → Reached heap v u → Contains (values_at heap u) w → Reached heap v w

-- a cons, the symbol of whose place is there, or a vector or a string of the language; no function and no cell
abbrev pub ObjectIsPresent : Stores → Object → Type 0
ObjectIsPresent s (Cons car cdr place) = PlaceMayBe s place
ObjectIsPresent s (Vector items) = length items ≤ greatest_length
ObjectIsPresent s (Str letters) = All IsScalar letters × (length letters ≤ greatest_length)
ObjectIsPresent s (Fun lambda cells) = ⊥
ObjectIsPresent s (Cell v) = ⊥

-- an integer in range, a character that is a scalar, a symbol of the table, or such an object of the heap
pub data IsPresent (s : Stores) : Val → Type 0 where
  an_integer : {z : _} → in_range z ≡ true → IsPresent s (Int z)
  a_character : {c : ℕ} → IsScalar c → IsPresent s (Char c)
  a_symbol : {x : SymId} → SymbolIsThere s x → IsPresent s (Sym x)
  an_object : {o : _} {x : Object} → slice_get s.heap (index_of o) ≡ Some x → ObjectIsPresent s x → IsPresent s (Ref o)

-- all that a value reaches is present
pub record IsThere (s : Stores) (v : Val) : Type 0 where
  pub reached : (u : Val) → Reached s.heap v u → IsPresent s u

-- ---- worlds and scopes

abbrev pub TypedIsThere : Stores → Typed → Type 0
TypedIsThere s t = SymbolIsThere s t.variable × TypeIsThere s t.spec

-- what has been proclaimed in the file is there
pub record IsSoundWorld (w : World) : Type 0 where
  pub begins : BeginsWithNames w.table.symbols
  pub specials : All (SymbolIsThere (stores_of w)) w.specials
  pub declaimed : All (TypedIsThere (stores_of w)) w.declaimed

abbrev pub TargetIsThere : Stores → Target → Type 0
TargetIsThere s (Lexical n) = Unit {0}
TargetIsThere s (Global x) = SymbolIsThere s x

abbrev pub NameIsThere : Stores → SymId × Target → Type 0
NameIsThere s p = TargetIsThere s p.1

abbrev pub CheckIsThere : Stores → Check → Type 0
CheckIsThere s (of_binding target spec) = TypeIsThere s spec
CheckIsThere s (of_uses target spec) = TypeIsThere s spec
CheckIsThere s (rebound x) = Unit {0}

-- the symbol of its place, the symbols that its variables are the values of, and its types are there
pub record IsSoundScope (s : Stores) (sc : Scope) : Type 0 where
  pub place : PlaceIsThere s sc.place
  pub variables : All (NameIsThere s) sc.variables
  pub checks : All (CheckIsThere s) sc.checks

-- ---- trees

-- what a tree names is there, and its tags are symbols and integers
pub record TreeIsThere (s : Stores) (e : Core) : Type 0 where
  pub symbols : All (SymbolIsThere s) (tree_symbols e)
  pub types : All (TypeIsThere s) (types_in e)
  pub values : All (IsThere s) (quoted e)
  pub tags : All (λ v. is_tag v ≡ true) (tags_in e)

-- ---- laws

-- what is so after an expansion
pub record IsExpanded (before after : World) (e : Core) : Type 0 where
  pub sound : IsSoundWorld after
  pub grown : Grown (stores_of before) (stores_of after)
  pub tree : TreeIsThere (stores_of after) e

-- a form that is there gives a tree that is there, and a sound world that holds what it held
abbrev pub DataAreThere : Type 0
DataAreThere =
    (fuel levels chain : ℕ) (sc : Scope) (v : Val) (w after : World) (e : Core) → expand fuel levels chain sc v w ≡ gives e after →
    IsSoundWorld w → IsSoundScope (stores_of w) sc → IsThere (stores_of w) v → IsExpanded w after e

-- what is there stays there
abbrev pub ValuesStay : Type 0
ValuesStay = (old new : Stores) (v : Val) → Grown old new → IsThere old v → IsThere new v

abbrev pub TreesStay : Type 0
TreesStay = (old new : Stores) (e : Core) → Grown old new → TreeIsThere old e → TreeIsThere new e

-- the program holds the objects and the symbols of these stores
pub record Holds (p : Program) (s : Stores) : Type 0 where
  pub heap : p.heap ≡ map object_of s.heap
  pub symbols : p.symbols ≡ map symbol_of s.table.symbols

-- what a value that is there reaches is a datum
abbrev pub ThereAreData : Type 0
ThereAreData = (p : Program) (s : Stores) (v w : Val) → Holds p s → IsThere s v → Reaches p v w → IsDatum p w

-- the symbols, types, data and tags of a form at the top are as a lawful program has them
pub record HasData (p : Program) (t : Top) : Type 0 where
  pub symbols : All (λ x. number_of x < length p.symbols) (top_symbols t)
  pub types : (table : Table) → length table.symbols ≡ length p.symbols → All (IsLawfulType table) (types_in t.core)
  pub data_there : (v w : Val) → Contains (quoted t.core) v → Reaches p v w → IsDatum p w
  pub tags : All (λ v. is_tag v ≡ true) (tags_in t.core)

abbrev pub TopsHaveData : Type 0
TopsHaveData = (p : Program) (s : Stores) (t : Top) → Holds p s → PlaceIsThere s t.place → TreeIsThere s t.core → HasData p t
