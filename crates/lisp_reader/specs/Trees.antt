-- The grammar: trees, the tokens that write each of them, and which trees are lawful (ANSI Common Lisp 2.4, for this project).
use Rattle.std.specs.Prelude.{◌≡◌, ℕ, ◌-◌, ◌<◌, Bool, true, false, ◌||◌, ◌&&◌, List, [], ◌∷◌, ◌++◌}
use Rattle.lisp_reader.specs.declared.around.Around.{Around}
use Rattle.lisp_reader.specs.declared.token.Prefix.{Prefix}
use Rattle.lisp_reader.specs.declared.token.Prefix.TheVariants as p
use Rattle.lisp_reader.specs.Tokens.{Placed, placed, Atom, opening, vector, closing, dot, prefix, atom}

-- forms, each with the offsets of its own tokens
mutual
  pub data Tree : Type 0 where
    leaf : (at : ℕ) → Atom → Tree
    prefixed : (at : ℕ) → Prefix → Tree → Tree
    list : (at : ℕ) → Trees → (close : ℕ) → Tree
    dotted : (at : ℕ) → Trees → (dot : ℕ) → Tree → (close : ℕ) → Tree
    vector_of : (at : ℕ) → Trees → (close : ℕ) → Tree

  pub data Trees : Type 0 where
    none : Trees
    also : Trees → Tree → Trees

-- ---- writing

abbrev mutual
  -- the tokens of a form
  pub writing : Tree → List Placed
  writing (leaf o a) = placed o (atom a) ∷ []
  writing (prefixed o f x) = placed o (prefix f) ∷ writing x
  writing (list o xs c) = placed o opening ∷ (writings xs ++ placed c closing ∷ [])
  writing (dotted o xs d x c) = placed o opening ∷ (writings xs ++ (placed d dot ∷ (writing x ++ placed c closing ∷ [])))
  writing (vector_of o xs c) = placed o vector ∷ (writings xs ++ placed c closing ∷ [])

  pub writings : Trees → List Placed
  writings none = []
  writings (also xs x) = writings xs ++ writing x

-- ---- what is lawful

-- what stands around a form: how many levels are left; whether it stands in a backquote, in a comma's form there, in a vector there
abbrev pub around : ℕ → Bool → Bool → Bool → Around
around n q c v = record { levels = n; quasi = q; comma = c; vector = v }

-- a form at top level may have 200 levels of lists, vectors and prefixes
abbrev pub top : Around
top = around 200 false false false

abbrev pub after_comma_in : Around → Around
after_comma_in a = around (a.levels - 1) a.quasi true a.vector

abbrev pub in_list : Around → Around
in_list a = around (a.levels - 1) a.quasi a.comma a.vector

abbrev pub in_vector : Around → Around
in_vector a = around (a.levels - 1) a.quasi a.comma (a.vector || a.quasi)

-- what stands around the form after a prefix
abbrev pub after : Prefix → Around → Around
after p.Quote a = in_list a
after p.Function a = in_list a
after p.Backquote a = around (a.levels - 1) true false false
after p.Comma a = after_comma_in a
after p.Splice a = after_comma_in a

-- a comma stands in a backquote, but in no comma's form and in no vector there
pub record MayComma (a : Around) : Type 0 where
  pub inside : a.quasi ≡ true
  pub outside : a.comma ≡ false
  pub unvectored : a.vector ≡ false

-- where a prefix may stand: no backquote inside another
abbrev pub MayStand : Prefix → Around → Type 0
MayStand p.Quote a = Unit {0}
MayStand p.Function a = Unit {0}
MayStand p.Backquote a = a.quasi ≡ false
MayStand p.Comma a = MayComma a
MayStand p.Splice a = MayComma a

abbrev pub is_backquote : Prefix → Bool
is_backquote p.Quote = false
is_backquote p.Function = false
is_backquote p.Backquote = true
is_backquote p.Comma = false
is_backquote p.Splice = false

abbrev pub is_splice : Prefix → Bool
is_splice p.Quote = false
is_splice p.Function = false
is_splice p.Backquote = false
is_splice p.Comma = false
is_splice p.Splice = true

abbrev pub begins_splice : Tree → Bool
begins_splice (leaf o a) = false
begins_splice (prefixed o f x) = is_splice f
begins_splice (list o xs c) = false
begins_splice (dotted o xs d x c) = false
begins_splice (vector_of o xs c) = false

-- no `,@` directly after a backquote
abbrev pub MayFollow : Prefix → Tree → Type 0
MayFollow f x = (begins_splice x && is_backquote f) ≡ false

abbrev pub some_tree : Trees → Bool
some_tree none = false
some_tree (also xs x) = true

abbrev mutual
  -- a form that may stand there
  pub Fits : Around → Tree → Type 0
  Fits a (leaf o x) = Unit {0}
  Fits a (prefixed o f x) = (0 < a.levels) × MayStand f a × MayFollow f x × Fits (after f a) x
  Fits a (list o xs c) = (0 < a.levels) × FitAll (in_list a) xs
  Fits a (dotted o xs d x c) = (0 < a.levels) × (some_tree xs ≡ true) × FitAll (in_list a) xs × Fits (in_list a) x
  Fits a (vector_of o xs c) = (0 < a.levels) × FitAll (in_vector a) xs

  pub FitAll : Around → Trees → Type 0
  FitAll a none = Unit {0}
  FitAll a (also xs x) = FitAll a xs × Fits a x
