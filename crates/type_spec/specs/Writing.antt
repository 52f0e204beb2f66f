-- Which form writes which type specifier (ANSI Common Lisp 4.2.3, and the entries of the specifiers).
use Rattle.std.specs.Prelude.{◌≡◌, ℕ, ◌+◌, ◌<◌, true, List, [], ◌∷◌, length, Some}
use Rattle.std.specs.Option.{option_and_then}
use Rattle.lisp_base.specs.declared.values.Val.{Val}
use Rattle.lisp_base.specs.Spec.{Spec, Named, Integer, Signed, Unsigned, Mod, Member, Eql, And, Or, Not, Specs, no_spec, spec, spec_size, specs_size}
use Rattle.lisp_base.specs.Tables.{Table, Object}
use Rattle.lisp_base.specs.Lawful.{is_item}
use Rattle.type_spec.specs.declared.words.Operator.{Operator}
use Rattle.type_spec.specs.declared.words.Operator.TheVariants as op
use Rattle.type_spec.specs.Forms.{cons_at, is_nil, only_of, operator_at, type_at, width_of, count_of, item_of, bounds_of}

-- a form is a list that begins with an operator
pub record IsCall (heap : List Object) (table : Table) (o : Operator) (form operands : Val) : Type 0 where
  pub head : Val
  pub cons : cons_at heap form ≡ Some (head, operands)
  pub word : operator_at table head ≡ Some o

-- a form is the list of these items
abbrev pub Lists : List Object → Table → List Val → Val → Type 0
Lists heap table [] form = is_nil form ≡ true
Lists heap table (x ∷ xs) form =
    (rest : Val) × (cons_at heap form ≡ Some (x, rest)) × (is_item table x ≡ true) × Lists heap table xs rest

abbrev mutual
  pub Writes : List Object → Table → Spec → Val → Type 0
  Writes heap table (Named name) form = type_at table form ≡ Some name
  Writes heap table (Integer lo hi) form =
      (operands : Val) × IsCall heap table op.Integer form operands × (bounds_of heap table operands ≡ Some (lo, hi))
  Writes heap table (Signed bits) form =
      (operands : Val) × IsCall heap table op.Signed form operands × (option_and_then width_of (only_of heap operands) ≡ Some bits)
  Writes heap table (Unsigned bits) form =
      (operands : Val) × IsCall heap table op.Unsigned form operands × (option_and_then width_of (only_of heap operands) ≡ Some bits)
  Writes heap table (Mod n) form =
      (operands : Val) × IsCall heap table op.Mod form operands × (option_and_then count_of (only_of heap operands) ≡ Some n)
  Writes heap table (Member items) form =
      (operands : Val) × IsCall heap table op.Member form operands × Lists heap table items operands
  Writes heap table (Eql item) form =
      (operands : Val) × IsCall heap table op.Eql form operands × (option_and_then (item_of table) (only_of heap operands) ≡ Some item)
  Writes heap table (And specs) form =
      (operands : Val) × IsCall heap table op.And form operands × WritesAll heap table specs operands
  Writes heap table (Or specs) form =
      (operands : Val) × IsCall heap table op.Or form operands × WritesAll heap table specs operands
  Writes heap table (Not part) form =
      (operands : Val) × IsCall heap table op.Not form operands × ((x : Val) × (only_of heap operands ≡ Some x) × Writes heap table part x)

  -- a form is a list of forms that write these
  pub WritesAll : List Object → Table → Specs → Val → Type 0
  WritesAll heap table no_spec form = is_nil form ≡ true
  WritesAll heap table (spec t ts) form =
      (x : Val) × (rest : Val) × (cons_at heap form ≡ Some (x, rest)) × Writes heap table t x × WritesAll heap table ts rest

-- a form writes no specifier of so few nodes and items
abbrev pub WritesNone : List Object → Table → Val → (limit : ℕ) → Type 0
WritesNone heap table form limit = (t : Spec) → Writes heap table t form → limit < spec_size t

-- ---- what a reader owes, that may use up so much room: a unit for each node and item

-- a specifier was read, and its nodes and items are counted
pub record IsRead (heap : List Object) (table : Table) (form : Val) (t : Spec) (before after : ℕ) : Type 0 where
  pub writes : Writes heap table t form
  pub counted : before ≡ after + spec_size t

-- the same of a list of specifiers
pub record AreRead (heap : List Object) (table : Table) (form : Val) (ts : Specs) (before after : ℕ) : Type 0 where
  pub write : WritesAll heap table ts form
  pub counted : before ≡ after + specs_size ts

abbrev pub ListsNone : List Object → Table → Val → ℕ → Type 0
ListsNone heap table form limit = (ts : Specs) → WritesAll heap table ts form → limit < specs_size ts

-- the same of a list of items
pub record AreListed (heap : List Object) (table : Table) (form : Val) (items : List Val) (before after : ℕ) : Type 0 where
  pub lists : Lists heap table items form
  pub counted : before ≡ after + length items

abbrev pub HasNoItems : List Object → Table → Val → ℕ → Type 0
HasNoItems heap table form limit = (items : List Val) → Lists heap table items form → limit < length items

-- the same of what follows an operator, whose own node is counted already
pub record IsReadAfter (heap : List Object) (table : Table) (o : Operator) (operands : Val) (t : Spec) (before after : ℕ) : Type 0 where
  pub writes : (form : Val) → IsCall heap table o form operands → Writes heap table t form
  pub counted : before + 1 ≡ after + spec_size t

abbrev pub WritesNoneAfter : List Object → Table → Operator → Val → ℕ → Type 0
WritesNoneAfter heap table o operands limit =
    (form : Val) → IsCall heap table o form operands → (t : Spec) → Writes heap table t form → limit + 1 < spec_size t

-- ---- a form writes one specifier at most
abbrev pub WritesOne : Type 0
WritesOne = (heap : List Object) (table : Table) (t u : Spec) (form : Val) → Writes heap table t form → Writes heap table u form → t ≡ u
