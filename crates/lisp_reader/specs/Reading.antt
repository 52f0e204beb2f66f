-- What a list of tokens reads as, and its first refusal (this project's own, over the grammar of ANSI Common Lisp 2.4).
use Rattle.std.specs.Prelude.{◌≡◌, ℕ, ◌<◌, Bool, true, false, not, ◌||◌, ◌&&◌, List, [], ◌∷◌, ◌++◌, Option, Some, None, if◌then◌else◌, length, map, ◌⊎◌, ◌==◌, encode_utf8_all}
use Rattle.std.specs.List.{list_any}
use Rattle.lisp_base.specs.declared.values.SymKind.TheVariants.{Plain, Keyword}
use Rattle.lisp_base.specs.Tables.{Table, interned}
use Rattle.lisp_reader.specs.declared.fault.ReadKind.{ReadKind}
use Rattle.lisp_reader.specs.declared.fault.ReadKind.TheVariants.{TooLong, NotText, Unbalanced, BadToken, Unsupported, TooDeep, TooManySymbols, Eof}
use Rattle.lisp_reader.specs.declared.around.Around.{Around}
use Rattle.lisp_reader.specs.declared.token.Prefix.{Prefix}
use Rattle.lisp_reader.specs.declared.token.Prefix.TheVariants as p
use Rattle.lisp_reader.specs.declared.forms.TopRead.{TopRead}
use Rattle.lisp_reader.specs.declared.level.Shape.{Shape}
use Rattle.lisp_reader.specs.declared.level.Shape.TheVariants as sh
use Rattle.lisp_reader.specs.Tokens.{Token, Placed, placed, integer, character, string, symbol, keyword, opening, vector, closing, dot, prefix, atom, bad}
use Rattle.lisp_reader.specs.Trees.{Tree, Trees, writing, writings, top, after, in_list, in_vector, MayStand, is_backquote, is_splice, some_tree, Fits, FitAll}
use Rattle.lisp_reader.specs.Building.{Stock, value, values, forms, bound}

-- ---- a beginning: whole forms, and then what is begun, the innermost first

pub data Begun : Type 0 where
  -- a list and its elements so far
  elements : (at : ℕ) → Trees → Begun
  -- and its dot
  after_dot : (at : ℕ) → Trees → (dot : ℕ) → Begun
  -- and the form after the dot
  after_tail : (at : ℕ) → Trees → (dot : ℕ) → Tree → Begun
  in_vector_of : (at : ℕ) → Trees → Begun
  after_prefix : (at : ℕ) → Prefix → Begun

abbrev pub written : Begun → List Placed
written (elements o xs) = placed o opening ∷ writings xs
written (after_dot o xs d) = placed o opening ∷ (writings xs ++ placed d dot ∷ [])
written (after_tail o xs d x) = placed o opening ∷ (writings xs ++ placed d dot ∷ writing x)
written (in_vector_of o xs) = placed o vector ∷ writings xs
written (after_prefix o f) = placed o (prefix f) ∷ []

abbrev pub beginning : Trees → List Begun → List Placed
beginning xs [] = writings xs
beginning xs (b ∷ bs) = beginning xs bs ++ written b

-- ---- what stands around the next token

abbrev pub shape : Begun → Shape
shape (elements o xs) = sh.List (some_tree xs)
shape (after_dot o xs d) = sh.Dot
shape (after_tail o xs d x) = sh.Tail
shape (in_vector_of o xs) = sh.Vector
shape (after_prefix o f) = sh.Prefix f

abbrev pub shapes : List Begun → List Shape
shapes bs = map shape bs

abbrev pub into : Shape → Around → Around
into (sh.List b) a = in_list a
into sh.Dot a = in_list a
into sh.Tail a = in_list a
into sh.Vector a = in_vector a
into (sh.Prefix f) a = after f a

abbrev pub inside : List Shape → Around
inside [] = top
inside (s ∷ ss) = into s (inside ss)

-- ---- which token may not come next, and why

-- the innermost
abbrev pub nearest : List Shape → Option Shape
nearest [] = None
nearest (s ∷ ss) = Some s

-- whether a form may come: not after the form after a dot
abbrev pub takes_form_after : Option Shape → Bool
takes_form_after None = true
takes_form_after (Some (sh.List b)) = true
takes_form_after (Some sh.Dot) = true
takes_form_after (Some sh.Tail) = false
takes_form_after (Some sh.Vector) = true
takes_form_after (Some (sh.Prefix f)) = true

abbrev pub takes_form : List Shape → Bool
takes_form ss = takes_form_after (nearest ss)

abbrev pub backquote_is : Option Shape → Bool
backquote_is None = false
backquote_is (Some (sh.List b)) = false
backquote_is (Some sh.Dot) = false
backquote_is (Some sh.Tail) = false
backquote_is (Some sh.Vector) = false
backquote_is (Some (sh.Prefix f)) = is_backquote f

abbrev pub follows_backquote : List Shape → Bool
follows_backquote ss = backquote_is (nearest ss)

abbrev pub too_deep : Around → Option ReadKind
too_deep a = if a.levels == 0 then Some TooDeep else None

abbrev pub backquote_fault : Around → Option ReadKind
backquote_fault a = if a.quasi then Some Unsupported else too_deep a

abbrev pub comma_fault : Around → Option ReadKind
comma_fault a = if not a.quasi || a.comma then Some BadToken else if a.vector then Some Unsupported else too_deep a

abbrev pub splice_fault : Bool → Around → Option ReadKind
splice_fault follows a = if follows then Some BadToken else comma_fault a

abbrev pub prefix_fault : Prefix → List Shape → Option ReadKind
prefix_fault p.Quote ss = too_deep (inside ss)
prefix_fault p.Function ss = too_deep (inside ss)
prefix_fault p.Backquote ss = backquote_fault (inside ss)
prefix_fault p.Comma ss = comma_fault (inside ss)
prefix_fault p.Splice ss = splice_fault (follows_backquote ss) (inside ss)

abbrev pub is_prefix : Shape → Bool
is_prefix (sh.List b) = false
is_prefix sh.Dot = false
is_prefix sh.Tail = false
is_prefix sh.Vector = false
is_prefix (sh.Prefix f) = true

-- whether a list or vector is begun
abbrev pub in_some_list : List Shape → Bool
in_some_list ss = list_any (λ s. not (is_prefix s)) ss

-- a closing ends a list that isn't just after its dot, or a vector
abbrev pub closing_fault_after : Option Shape → (in_list : Bool) → Option ReadKind
closing_fault_after None in_list = Some Unbalanced
closing_fault_after (Some (sh.List b)) in_list = None
closing_fault_after (Some sh.Dot) in_list = Some BadToken
closing_fault_after (Some sh.Tail) in_list = None
closing_fault_after (Some sh.Vector) in_list = None
closing_fault_after (Some (sh.Prefix f)) in_list = if in_list then Some BadToken else Some Unbalanced

abbrev pub closing_fault : List Shape → Option ReadKind
closing_fault ss = closing_fault_after (nearest ss) (in_some_list ss)

-- a dot comes after an element of a list
abbrev pub dot_fault_after : Option Shape → Option ReadKind
dot_fault_after None = Some BadToken
dot_fault_after (Some (sh.List b)) = if b then None else Some BadToken
dot_fault_after (Some sh.Dot) = Some BadToken
dot_fault_after (Some sh.Tail) = Some BadToken
dot_fault_after (Some sh.Vector) = Some BadToken
dot_fault_after (Some (sh.Prefix f)) = Some BadToken

abbrev pub dot_fault : List Shape → Option ReadKind
dot_fault ss = dot_fault_after (nearest ss)

-- why a form that begins with this token may not come next, where a form may
abbrev pub form_fault : List Shape → Token → Option ReadKind
form_fault ss opening = too_deep (inside ss)
form_fault ss vector = too_deep (inside ss)
form_fault ss closing = closing_fault ss
form_fault ss dot = dot_fault ss
form_fault ss (prefix f) = prefix_fault f ss
form_fault ss (atom a) = None
form_fault ss (bad kind) = Some kind

abbrev pub is_closing : Token → Bool
is_closing opening = false
is_closing vector = false
is_closing closing = true
is_closing dot = false
is_closing (prefix f) = false
is_closing (atom a) = false
is_closing (bad kind) = false

-- after the form after a dot, anything but a closing is refused before it is read
unfoldable pub place_fault : List Shape → Token → Option ReadKind
place_fault ss t = if takes_form ss || is_closing t then form_fault ss t else Some BadToken

abbrev pub full : {X : Type 0} → Option X → Option ReadKind
full (Some x) = None
full None = Some TooManySymbols

-- a symbol that is new, where the table is full
unfoldable pub symbol_fault : Table → Token → Option ReadKind
symbol_fault symbols opening = None
symbol_fault symbols vector = None
symbol_fault symbols closing = None
symbol_fault symbols dot = None
symbol_fault symbols (prefix f) = None
symbol_fault symbols (atom (integer n)) = None
symbol_fault symbols (atom (character c)) = None
symbol_fault symbols (atom (string t)) = None
symbol_fault symbols (atom (symbol n)) = full (interned (encode_utf8_all n) Plain symbols)
symbol_fault symbols (atom (keyword n)) = full (interned (encode_utf8_all n) Keyword symbols)
symbol_fault symbols (bad kind) = None

abbrev pub or_else : Option ReadKind → Option ReadKind → Option ReadKind
or_else (Some kind) other = Some kind
or_else None other = other

abbrev pub fault : List Shape → Table → Token → Option ReadKind
fault ss symbols t = or_else (place_fault ss t) (symbol_fault symbols t)

-- ---- lawful beginnings, and what they leave of the symbol table and the heap

abbrev pub FitsBegun : Around → Begun → Type 0
FitsBegun a (elements o xs) = (0 < a.levels) × FitAll (in_list a) xs
FitsBegun a (after_dot o xs d) = (0 < a.levels) × (some_tree xs ≡ true) × FitAll (in_list a) xs
FitsBegun a (after_tail o xs d x) = (0 < a.levels) × (some_tree xs ≡ true) × FitAll (in_list a) xs × Fits (in_list a) x
FitsBegun a (in_vector_of o xs) = (0 < a.levels) × FitAll (in_vector a) xs
FitsBegun a (after_prefix o f) = (0 < a.levels) × MayStand f a

abbrev pub splices : Begun → Bool
splices (elements o xs) = false
splices (after_dot o xs d) = false
splices (after_tail o xs d x) = false
splices (in_vector_of o xs) = false
splices (after_prefix o f) = is_splice f

abbrev pub AllFit : Trees → List Begun → Type 0
AllFit xs [] = FitAll top xs
AllFit xs (b ∷ bs) =
    (takes_form (shapes bs) ≡ true) × ((splices b && follows_backquote (shapes bs)) ≡ false)
    × FitsBegun (inside (shapes bs)) b × AllFit xs bs

abbrev pub begun_stock : Begun → Stock → Option Stock
begun_stock (elements o xs) s = bound (values xs s) (λ vs. Some vs.1)
begun_stock (after_dot o xs d) s = bound (values xs s) (λ vs. Some vs.1)
begun_stock (after_tail o xs d x) s = bound (values xs s) (λ vs. bound (value x vs.1) (λ v. Some v.1))
begun_stock (in_vector_of o xs) s = bound (values xs s) (λ vs. Some vs.1)
begun_stock (after_prefix o f) s = Some s

abbrev pub stock_after : Trees → List Begun → Stock → Option Stock
stock_after xs [] s = bound (forms xs s) (λ fs. Some fs.1)
stock_after xs (b ∷ bs) s = bound (stock_after xs bs s) (begun_stock b)

-- ---- the two answers

-- tokens read as these forms, with this symbol table and heap then
abbrev pub ReadsTokens : List Placed → Stock → List TopRead × Stock → Type 0
ReadsTokens ps s answer = (xs : Trees) × FitAll top xs × (ps ≡ writings xs) × (forms xs s ≡ Some answer)

pub record Refusal : Type 0 where
  pub kind : ReadKind
  pub offset : ℕ

abbrev pub refusal : ReadKind → ℕ → Refusal
refusal kind offset = record { kind = kind; offset = offset }

-- the end inside something has the offset of the end
abbrev pub refusal_at : (at end : ℕ) → ReadKind → Refusal
refusal_at at end TooLong = refusal TooLong at
refusal_at at end NotText = refusal NotText at
refusal_at at end Unbalanced = refusal Unbalanced at
refusal_at at end BadToken = refusal BadToken at
refusal_at at end Unsupported = refusal Unsupported at
refusal_at at end TooDeep = refusal TooDeep at
refusal_at at end TooManySymbols = refusal TooManySymbols at
refusal_at at end Eof = refusal Eof end

-- after a lawful beginning a token may not come next
abbrev pub StopsAt : Trees → List Begun → (end : ℕ) → List Placed → Stock → Refusal → Type 0
StopsAt xs bs end ps s r =
    (p : Placed) × (rest : List Placed) × (kind : ReadKind) × (ps ≡ beginning xs bs ++ p ∷ rest)
    × (fault (shapes bs) s.symbols p.token ≡ Some kind) × (r ≡ refusal_at p.at end kind)

-- the end comes inside something that is begun
abbrev pub EndsInside : Trees → List Begun → (end : ℕ) → List Placed → Refusal → Type 0
EndsInside xs bs end ps r = (0 < length bs) × (ps ≡ beginning xs bs) × (r ≡ refusal Eof end)

-- tokens before an end are refused so
abbrev pub RefusesTokens : List Placed → (end : ℕ) → Stock → Refusal → Type 0
RefusesTokens ps end s r =
    (xs : Trees) × (bs : List Begun) × (after_all : Stock) × AllFit xs bs × (stock_after xs bs s ≡ Some after_all)
    × (StopsAt xs bs end ps after_all r ⊎ EndsInside xs bs end ps r)
