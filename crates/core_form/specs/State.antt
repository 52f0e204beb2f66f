-- The state of a run, what is counted, and how a stretch of a run ends. (This project's own; errors after ANSI Common Lisp, chapter 9.)
use Rattle.std.specs.Prelude.{ℕ, ◌+◌, ◌-◌, ◌*◌, ◌^◌, ℤ, pos, negsuc, Bool, ◌&&◌, if◌then◌else◌, int_le, int_lt, List, [], ◌∷◌, Option, Some, None}
use Rattle.lisp_base.specs.declared.values.SymId.{SymId}
use Rattle.lisp_base.specs.declared.values.SymKind.{SymKind}
use Rattle.lisp_base.specs.declared.values.Val.{Val}
use Rattle.lisp_base.specs.declared.values.Val.TheVariants.{Int, Char, Sym, Ref}
use Rattle.lisp_base.specs.Spec.{Spec}
use Rattle.lisp_base.specs.Sort.{ObjectKind, ConsObject, VectorObject, StringObject, FunctionObject, CellObject, nil}

-- a symbol: the code points of its name, and what it is
pub record Symbol : Type 0 where
  pub name : List ℕ
  pub kind : SymKind

-- An object of the store. A function has its number among those of the program, and holds what the variables that it closes
-- over hold; of a variable, block or tagbody that has a cell, the cell.
pub data Object : Type 0 where
  Pair : (car cdr : Val) → Object
  Vector : List Val → Object
  Str : List ℕ → Object
  Fun : (function : ℕ) → (closed : List Val) → Object
  Cell : Val → Object

abbrev pub kind_of_object : Object → ObjectKind
kind_of_object (Pair a d) = ConsObject
kind_of_object (Vector vs) = VectorObject
kind_of_object (Str cs) = StringObject
kind_of_object (Fun k closed) = FunctionObject
kind_of_object (Cell v) = CellObject

-- an error
pub data Fault : Type 0 where
  TypeError : (datum : Val) → (expected : Spec) → Fault
  Index : (datum : Val) → (length : ℕ) → Fault
  Overflow : (op : SymId) → (a b : Val) → Fault
  ZeroDivide : (op : SymId) → (a b : Val) → Fault
  Unbound : (name : SymId) → Fault
  Undefined : (name : SymId) → Fault
  Arguments : (callee : Option SymId) → (given : ℕ) → Fault
  Control : (tag : Val) → Fault
  EndOfFile : Fault
  Simple : (first others : Val) → Fault

abbrev pub name_or_nil : Option SymId → Val
name_or_nil None = nil
name_or_nil (Some s) = Sym s

-- the values that an error shows, in order
abbrev pub data_of : Fault → List Val
data_of (TypeError v t) = v ∷ []
data_of (Index v n) = v ∷ Int (pos n) ∷ []
data_of (Overflow op a b) = a ∷ b ∷ []
data_of (ZeroDivide op a b) = a ∷ b ∷ []
data_of (Unbound s) = Sym s ∷ []
data_of (Undefined s) = Sym s ∷ []
data_of (Arguments f n) = name_or_nil f ∷ Int (pos n) ∷ []
data_of (Control v) = v ∷ []
data_of EndOfFile = []
data_of (Simple a b) = a ∷ b ∷ []

-- what is counted
pub record Counts : Type 0 where
  pub cost : ℕ
  pub heap_words : ℕ
  -- deliveries of an integer outside the fixnums: at every node, and outside word positions
  pub boxes : ℕ
  pub boxes_outside_words : ℕ
  -- the greatest numbers so far
  pub stack_words : ℕ
  pub held : ℕ
  -- nodes of the forms that were begun, values past the first, catches looked at, list elements looked at
  pub begun : ℕ
  pub extra : ℕ
  pub looked : ℕ
  pub walked : ℕ

-- four times the sum of what takes time
abbrev pub work : Counts → ℕ
work n = 4 * (n.cost + n.begun + n.extra + n.looked + n.walked)

-- in bytes; every node that delivers an integer outside the fixnums counts
abbrev pub heap_need : Counts → ℕ
heap_need n = 8 * (n.heap_words + 2 * n.boxes)

-- in bytes
abbrev pub stack_need : Counts → ℕ
stack_need n = 8 * (n.stack_words + n.held)

pub record State : Type 0 where
  -- the fuel taken so far
  pub taken : ℕ
  pub store : List Object
  -- what the variables, blocks and tagbodies of the running function hold, by number, the newest first; of one with a cell, the cell
  pub frame : List (ℕ × Val)
  -- the number of the next entry of a block, a tagbody or a catch
  pub next_entry : ℕ
  -- what the symbols were last given, by number, the newest first; None where one was unbound again
  pub values : List (ℕ × Option Val)
  pub functions : List (ℕ × Val)
  -- the characters that are left
  pub input : List ℕ
  -- the characters written, the newest first
  pub output : List ℕ
  pub counts : Counts

-- an exit on its way to one entry of a block, tagbody or catch, with values; that of a GO is to a tag
pub record Exit : Type 0 where
  pub entry : ℕ
  pub tag : Option ℕ
  pub values : List Val

-- ---- values

abbrev pub first_of_values : List Val → Val
first_of_values [] = nil
first_of_values (v ∷ vs) = v

abbrev pub is_fixnum : ℤ → Bool
is_fixnum z = int_le (negsuc (2 ^ 61 - 1)) z && int_lt z (pos (2 ^ 61))

-- 1 for an integer outside the fixnums
abbrev pub big : Val → ℕ
big (Int z) = if is_fixnum z then 0 else 1
big (Char c) = 0
big (Sym s) = 0
big (Ref o) = 0

abbrev pub all_big : List Val → ℕ
all_big [] = 0
all_big (v ∷ vs) = big v + all_big vs
