-- What is shown of values in a store, a heap with a symbol table (this project's own).
use Rattle.std.specs.Prelude.{ℕ, nat_le, if◌then◌else◌, List, [], Option, Some, None, chars, length, slice_get, slice_index, slice_index_or, unwrap_or}
use Rattle.lisp_base.specs.declared.values.Val.{Val}
use Rattle.lisp_base.specs.declared.values.Val.TheVariants as val
use Rattle.lisp_base.specs.declared.shapes.Shape.{Shape}
use Rattle.lisp_base.specs.declared.shapes.Shape.TheVariants as shape
use Rattle.lisp_base.specs.Shown.{Shown, most_elements}
use Rattle.lisp_base.specs.Sort.{index_of, number_of}
use Rattle.lisp_base.specs.Tables.{Symbol, Object, Cons, Vector, Str, Fun, Cell}

-- the objects and the symbols, by their numbers
pub record Store : Type 0 where
  pub objects : List Object
  pub symbols : List Symbol

abbrev pub make_store : List Object → List Symbol → Store
make_store objects symbols = record { objects = objects; symbols = symbols }

-- a number of elements or characters that can be shown
abbrev pub shown_count : ℕ → Option ℕ
shown_count n = if nat_le n most_elements then Some n else None

-- the shape of what has so many of them
abbrev pub counted : {W : Type 0} → (ℕ → Shape W) → Option ℕ → Shape W
counted s None = shape.Bad
counted s (Some n) = s n

abbrev pub symbol_shape : Option Symbol → Shape Val
symbol_shape None = shape.Bad
symbol_shape (Some s) = counted (shape.Sym s.kind) (shown_count (length (chars s.name)))

-- how many characters of a name are shown
abbrev pub name_count : List ℕ → ℕ
name_count name = unwrap_or (shown_count (length (chars name))) 0

abbrev pub object_shape : Option Object → Shape Val
object_shape None = shape.Bad
object_shape (Some (Cons car cdr place)) = shape.Cons car cdr
object_shape (Some (Vector items)) = counted shape.Vector (shown_count (length items))
object_shape (Some (Str letters)) = counted shape.Str (shown_count (length letters))
object_shape (Some (Fun lambda cells)) = shape.Fun
object_shape (Some (Cell v)) = shape.Bad

abbrev pub value_shape : Store → Val → Shape Val
value_shape store (val.Int z) = shape.Int z
value_shape store (val.Char c) = shape.Char c
value_shape store (val.Sym s) = symbol_shape (slice_get store.symbols (number_of s))
value_shape store (val.Ref o) = object_shape (slice_get store.objects (index_of o))

-- the elements of a vector
abbrev pub items_of : Option Object → List Val
items_of None = []
items_of (Some (Cons car cdr place)) = []
items_of (Some (Vector items)) = items
items_of (Some (Str letters)) = []
items_of (Some (Fun lambda cells)) = []
items_of (Some (Cell v)) = []

abbrev pub value_items : Store → Val → List Val
value_items store (val.Int z) = []
value_items store (val.Char c) = []
value_items store (val.Sym s) = []
value_items store (val.Ref o) = items_of (slice_get store.objects (index_of o))

-- the letters of a string and of a symbol's name
abbrev pub name_letters : Option Symbol → List ℕ
name_letters None = []
name_letters (Some s) = chars s.name

abbrev pub letters_of : Option Object → List ℕ
letters_of None = []
letters_of (Some (Cons car cdr place)) = []
letters_of (Some (Vector items)) = []
letters_of (Some (Str letters)) = letters
letters_of (Some (Fun lambda cells)) = []
letters_of (Some (Cell v)) = []

abbrev pub value_letters : Store → Val → List ℕ
value_letters store (val.Int z) = []
value_letters store (val.Char c) = []
value_letters store (val.Sym s) = name_letters (slice_get store.symbols (number_of s))
value_letters store (val.Ref o) = letters_of (slice_get store.objects (index_of o))

-- what is shown of the values of a store
abbrev pub store_shown : Store → Shown Val
store_shown store = record {
  shape = value_shape store;
  element = λ v i. slice_index_or (value_items store v) i v;
  letter = λ v i. slice_index (value_letters store v) i;
}
