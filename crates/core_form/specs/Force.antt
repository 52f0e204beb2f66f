-- What is in force while a program runs, how an error is signalled, and how a type is tested. (Errors after ANSI Common Lisp 9.1 and 4.2; the rest is this project's own.)
use Rattle.std.specs.Prelude.{ℕ, suc, ◌+◌, Bool, true, false, not, ◌||◌, if◌then◌else◌, ◌==◌, List, [], ◌∷◌, map, slice_get, option_map, Option, Some, None}
use Rattle.lisp_base.specs.declared.values.SymId.{SymId}
use Rattle.lisp_base.specs.declared.values.SymKind.{SymKind}
use Rattle.lisp_base.specs.declared.values.SymKind.TheVariants as symbol_kinds
use Rattle.lisp_base.specs.declared.values.Val.{Val}
use Rattle.lisp_base.specs.declared.values.Val.TheVariants.{Int, Char, Sym, Ref}
use Rattle.lisp_base.specs.declared.values.Place.{Place}
use Rattle.lisp_base.specs.Sort.{nil, symbol, index_of}
use Rattle.lisp_base.specs.Spec.{Spec, spec_size}
use Rattle.lisp_base.specs.Membership.{SymbolKind, KindAt, has, is_symbol_number}
use Rattle.core_form.specs.State.{Symbol, Object, Pair, kind_of_object, Fault, TypeError, data_of, State}
use Rattle.core_form.specs.Effect.{Effect, ◌>>=◌, ◌>>◌, pure, read, leave, fail, spend, allot, box_all, look_at, add}

abbrev pub Vals : Type 0
Vals = List Val

-- a catch: its tag, and the number of its entry
pub record Catch : Type 0 where
  pub tag : Val
  pub entry : ℕ

-- what is in force where a node is evaluated
pub record Force : Type 0 where
  -- the symbols of the program
  pub symbols : List Symbol
  -- the stack words below the running call, and those of all that is in force
  pub below : ℕ
  pub words : ℕ
  -- the newest first
  pub catches : List Catch
  -- the entries of the blocks and tagbodies
  pub entries : List ℕ
  -- how many values are kept
  pub kept : ℕ

-- so many stack words more
abbrev pub deeper : ℕ → Force → Force
deeper n f = record f { words = f.words + n }

-- so many values more are kept
abbrev pub keeping : ℕ → Force → Force
keeping n f = record f { kept = f.kept + n }

abbrev pub is_catch : ℕ → List Catch → Bool
is_catch n [] = false
is_catch n (c ∷ cs) = n == c.entry || is_catch n cs

abbrev pub is_entry : ℕ → List ℕ → Bool
is_entry n [] = false
is_entry n (m ∷ ms) = n == m || is_entry n ms

-- whether an entry can still be left for
abbrev pub in_force : Force → ℕ → Bool
in_force f n = is_entry n f.entries || is_catch n f.catches

abbrev pub is_true : Val → Bool
is_true v = not (is_symbol_number 0 v)

-- ---- symbols

abbrev pub kind_of_symbol : Symbol → SymKind
kind_of_symbol s = s.kind

abbrev pub symbol_kinds_of : List Symbol → SymbolKind
symbol_kinds_of symbols n = option_map kind_of_symbol (slice_get symbols n)

abbrev pub same_text : List ℕ → List ℕ → Bool
same_text [] [] = true
same_text [] (d ∷ ds) = false
same_text (c ∷ cs) [] = false
same_text (c ∷ cs) (d ∷ ds) = if c == d then same_text cs ds else false

abbrev pub is_plain : SymKind → Bool
is_plain symbol_kinds.Plain = true
is_plain symbol_kinds.Keyword = false
is_plain symbol_kinds.Fresh = false

abbrev pub is_named : List ℕ → Symbol → Bool
is_named text s = if is_plain s.kind then same_text text s.name else false

-- the first plain symbol of this name, counted from n; every program has the names of the language
abbrev pub named_from : ℕ → List ℕ → List Symbol → SymId
named_from n text [] = symbol 0
named_from n text (s ∷ ss) = if is_named text s then symbol n else named_from (suc n) text ss

abbrev pub symbol_named : List ℕ → List Symbol → SymId
symbol_named text symbols = named_from 0 text symbols

-- ---- lists

-- A fresh list of values, its last cons made first. What is stored in it is stored in an object.
unfoldable pub make_list : Vals → Effect Val
make_list [] = pure nil
make_list (v ∷ vs) = make_list vs >>= (λ rest. allot 2 >> box_all (v ∷ []) >> add (Pair v rest))

-- ---- errors

-- what becomes of an error: the end of the run, or an exit to the catch at this place of the list, with these values
pub data Signalled : Type 0 where
  Stops : Signalled
  Caught : (at : ℕ) → Vals → Signalled

-- How an error is signalled, of which each layer makes one use: from the objects, the error, its place and the tags of the
-- catches in force, how many tags were looked at, and what follows. Nothing catches an error so far.
unfoldable pub signal : List Object → Fault → Place → Vals → ℕ × Signalled
signal store x p tags = (0, Stops)

-- an error that nothing catches ends the run
unfoldable pub stop_at : {A : Type 0} → Fault → Place → Effect A
stop_at x p = box_all (data_of x) >> fail x p

unfoldable pub go_to_catch : {A : Type 0} → Fault → Place → Vals → Option Catch → Effect A
go_to_catch x p vs None = stop_at x p
go_to_catch x p vs (Some c) = make_list vs >>= (λ v. leave (record { entry = c.entry; tag = None; values = v ∷ [] }))

unfoldable pub after_signal : {A : Type 0} → Force → Fault → Place → Signalled → Effect A
after_signal f x p Stops = stop_at x p
after_signal f x p (Caught at vs) = go_to_catch x p vs (slice_get f.catches at)

abbrev pub tag_of_catch : Catch → Val
tag_of_catch c = c.tag

unfoldable pub raise : {A : Type 0} → Force → Fault → Place → Effect A
raise f x p =
    read (λ s. signal s.store x p (map tag_of_catch f.catches)) >>= (λ r. look_at r.0 >> after_signal f x p r.1)

-- ---- types

abbrev pub object_at : Val → State → Option Object
object_at (Int z) s = None
object_at (Char c) s = None
object_at (Sym n) s = None
object_at (Ref o) s = slice_get s.store (index_of o)

abbrev pub kind_at : List Object → KindAt
kind_at store n = option_map kind_of_object (slice_get store n)

abbrev pub holds : Force → Spec → Val → State → Bool
holds f t v s = has (kind_at s.store) (symbol_kinds_of f.symbols) t v

unfoldable pub pass : Bool → Force → Spec → Val → Place → Effect (Unit {0})
pass true f t v p = pure tt
pass false f t v p = raise f (TypeError v t) p

-- a value must be of a type
unfoldable pub expect : Force → Place → Spec → Val → Effect (Unit {0})
expect f p t v = read (holds f t v) >>= (λ b. pass b f t v p)

-- a declared check, which costs the type's size
unfoldable pub check : Force → Place → Spec → Val → Effect (Unit {0})
check f p t v = spend (spec_size t) >> expect f p t v

unfoldable pub check_all : Force → Place → List Spec → Val → Effect (Unit {0})
check_all f p [] v = pure tt
check_all f p (t ∷ ts) v = check f p t v >> check_all f p ts v

unfoldable pub one : Val → Effect Vals
one v = pure (v ∷ [])
