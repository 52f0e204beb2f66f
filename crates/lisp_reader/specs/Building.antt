-- The value of a form, with the symbols and objects that it adds (this project's own): symbols in the order of their tokens; the
-- objects of all that stands in a list or vector before its own; of a list its last cons first.
use Rattle.std.specs.Prelude.{ℕ, ◌+◌, List, [], ◌∷◌, ◌++◌, Option, Some, None, length, encode_utf8_all}
use Rattle.lisp_base.specs.declared.values.Val.{Val}
use Rattle.lisp_base.specs.declared.values.Val.TheVariants.{Int, Char, Sym, Ref}
use Rattle.lisp_base.specs.declared.values.SymId.{SymId}
use Rattle.lisp_base.specs.declared.values.SymKind.{SymKind}
use Rattle.lisp_base.specs.declared.values.SymKind.TheVariants.{Plain, Keyword}
use Rattle.lisp_base.specs.declared.values.Place.TheVariants.{File}
use Rattle.lisp_base.specs.Sort.{nil, symbol as symbol_id, object as object_id}
use Rattle.lisp_base.specs.Tables.{Table, interned, Object, Cons, Vector, Str}
use Rattle.lisp_reader.specs.declared.token.Prefix.{Prefix}
use Rattle.lisp_reader.specs.declared.token.Prefix.TheVariants as p
use Rattle.lisp_reader.specs.declared.forms.TopRead.{TopRead}
use Rattle.lisp_reader.specs.Tokens.{Atom, integer, character, string, symbol, keyword}
use Rattle.lisp_reader.specs.Trees.{Tree, Trees, leaf, prefixed, list, dotted, vector_of, none, also}

-- the symbol table and the heap
pub record Stock : Type 0 where
  pub symbols : Table
  pub objects : List Object

abbrev pub stock : Table → List Object → Stock
stock symbols objects = record { symbols = symbols; objects = objects }

abbrev pub bound : {A B : Type 0} → Option A → (A → Option B) → Option B
bound None f = None
bound (Some x) f = f x

-- QUOTE, FUNCTION, QUASIQUOTE, UNQUOTE and UNQUOTE-SPLICING, which follow NIL and T in each table
abbrev pub prefix_symbol : Prefix → Val
prefix_symbol p.Quote = Sym (symbol_id 2)
prefix_symbol p.Function = Sym (symbol_id 3)
prefix_symbol p.Backquote = Sym (symbol_id 4)
prefix_symbol p.Comma = Sym (symbol_id 5)
prefix_symbol p.Splice = Sym (symbol_id 6)

-- a new object
abbrev pub made : Object → List Object → Val × List Object
made o objects = (Ref (object_id (length objects)), objects ++ o ∷ [])

-- the conses of the elements from the kth on of the list at an offset, before a last CDR
abbrev pub chain : (at k : ℕ) → List Val → (tail : Val) → List Object → Val × List Object
chain at k [] tail objects = (tail, objects)
chain at k (x ∷ xs) tail objects =
    made (Cons x (chain at (k + 1) xs tail objects).0 (Some (File at k))) (chain at (k + 1) xs tail objects).1

abbrev pub with_symbols : Table → Val × List Object → Val × Stock
with_symbols symbols v = (v.0, stock symbols v.1)

abbrev pub symbol_value : List Object → SymId × Table → Val × Stock
symbol_value objects found = (Sym found.0, stock found.1 objects)

abbrev pub named : List ℕ → SymKind → Stock → Option (Val × Stock)
named name kind s = bound (interned (encode_utf8_all name) kind s.symbols) (λ found. Some (symbol_value s.objects found))

unfoldable pub atom_value : Atom → Stock → Option (Val × Stock)
atom_value (integer n) s = Some (Int n, s)
atom_value (character c) s = Some (Char c, s)
atom_value (string letters) s = Some (with_symbols s.symbols (made (Str letters) s.objects))
atom_value (symbol name) s = named name Plain s
atom_value (keyword name) s = named name Keyword s

-- a prefix before a form is a list of two
abbrev pub prefix_value : (at : ℕ) → Prefix → Val × Stock → Val × Stock
prefix_value at f v = with_symbols v.1.symbols (chain at 0 (prefix_symbol f ∷ v.0 ∷ []) nil v.1.objects)

abbrev pub list_value : (at : ℕ) → (tail : Val) → List Val × Stock → Val × Stock
list_value at tail vs = with_symbols vs.1.symbols (chain at 0 vs.0 tail vs.1.objects)

abbrev pub vector_value : List Val × Stock → Val × Stock
vector_value vs = with_symbols vs.1.symbols (made (Vector vs.0) vs.1.objects)

abbrev pub pushed : List Val → Val × Stock → List Val × Stock
pushed vs v = (vs ++ v.0 ∷ [], v.1)

abbrev mutual
  -- none where the symbol table is full
  pub value : Tree → Stock → Option (Val × Stock)
  value (leaf o a) s = atom_value a s
  value (prefixed o f x) s = bound (value x s) (λ v. Some (prefix_value o f v))
  value (list o xs c) s = bound (values xs s) (λ vs. Some (list_value o nil vs))
  value (dotted o xs d x c) s = bound (values xs s) (λ vs. bound (value x vs.1) (λ v. Some (list_value o v.0 (vs.0, v.1))))
  value (vector_of o xs c) s = bound (values xs s) (λ vs. Some (vector_value vs))

  pub values : Trees → Stock → Option (List Val × Stock)
  values none s = Some ([], s)
  values (also xs x) s = bound (values xs s) (λ vs. bound (value x vs.1) (λ v. Some (pushed vs.0 v)))

abbrev pub start : Tree → ℕ
start (leaf o a) = o
start (prefixed o f x) = o
start (list o xs c) = o
start (dotted o xs d x c) = o
start (vector_of o xs c) = o

-- a form at top level, and the offset of its first byte
abbrev pub top_form : ℕ → Val → TopRead
top_form at v = record { form = v; offset = at }

abbrev pub forms : Trees → Stock → Option (List TopRead × Stock)
forms none s = Some ([], s)
forms (also xs x) s = bound (forms xs s) (λ fs. bound (value x fs.1) (λ v. Some (fs.0 ++ top_form (start x) v.0 ∷ [], v.1)))
