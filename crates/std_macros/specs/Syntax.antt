-- What the arguments of macros hold: words, pairs, variables, and bodies with their declarations (ANSI Common Lisp 3.4.11).
use Rattle.std.specs.Prelude.{Bool, true, false, List, [], ◌∷◌, Option, Some, None, if◌then◌else◌}
use Rattle.std.specs.Option.{option_map, option_and_then}
use Rattle.lisp_base.specs.declared.values.Val.{Val}
use Rattle.lisp_base.specs.Sort.{StringObject}
use Rattle.lisp_base.specs.Membership.{is_symbol, is_symbol_number, is_object}
use Rattle.lisp_base.specs.Kinds.{kinds_of}
use Rattle.lisp_base.specs.Tables.{Object}
use Rattle.lisp_forms.specs.Conses.{is_nil, cons_at}
use Rattle.std_macros.specs.declared.words.Word.{Word}
use Rattle.std_macros.specs.declared.words.Word.TheVariants as w
use Rattle.std_macros.specs.Words.{word_number}

abbrev pub is_word : Word → Val → Bool
is_word x v = is_symbol_number (word_number x) v

-- what each of several gives, where each gives something
abbrev pub each : {A B : Type 0} → (A → Option B) → List A → Option (List B)
each f [] = Some []
each f (x ∷ xs) = option_and_then (λ y. option_map (λ ys. y ∷ ys) (each f xs)) (f x)

-- the first and the second of each two
abbrev pub paired : Val → Val → List Val × List Val → List Val × List Val
paired a b others = (a ∷ others.0, b ∷ others.1)

abbrev pub pairs : List Val → Option (List Val × List Val)
pairs [] = Some ([], [])
pairs (a ∷ []) = None
pairs (a ∷ b ∷ others) = option_map (paired a b) (pairs others)

abbrev pub all_symbols : List Val → Bool
all_symbols [] = true
all_symbols (v ∷ vs) = if is_symbol v then all_symbols vs else false

-- ---- lists of one and of two

-- the element of a list of one
abbrev pub only_of : List Object → Val → Option Val
only_of heap v = option_and_then (λ p. if is_nil p.1 then Some p.0 else None) (cons_at heap v)

-- the form after a word, in a list of these two
abbrev pub marked : Word → List Object → Val → Option Val
marked x heap v = option_and_then (λ p. if is_word x p.0 then only_of heap p.1 else None) (cons_at heap v)

-- ---- bodies

abbrev pub is_string : List Object → Val → Bool
is_string heap v = is_object StringObject (kinds_of heap) v

abbrev pub has_operator : Word → Option (Val × Val) → Bool
has_operator x None = false
has_operator x (Some p) = is_word x p.0

-- a list that begins with DECLARE
abbrev pub is_declaration : List Object → Val → Bool
is_declaration heap v = has_operator w.Declare (cons_at heap v)

-- a string first in a body is dropped where more forms follow
abbrev pub undocumented : List Object → List Val → List Val
undocumented heap [] = []
undocumented heap (v ∷ []) = v ∷ []
undocumented heap (v ∷ x ∷ xs) = if is_string heap v then x ∷ xs else v ∷ x ∷ xs

-- the declarations at the front, and the forms after them
pub record Parts : Type 0 where
  pub declarations : List Val
  pub rest : List Val

abbrev pub parts : List Val → List Val → Parts
parts ds xs = record { declarations = ds; rest = xs }

abbrev pub with_declaration : Val → Parts → Parts
with_declaration d b = parts (d ∷ b.declarations) b.rest

abbrev pub parted : List Object → List Val → Parts
parted heap [] = parts [] []
parted heap (v ∷ vs) = if is_declaration heap v then with_declaration v (parted heap vs) else parts [] (v ∷ vs)

abbrev pub body_parts : List Object → List Val → Parts
body_parts heap vs = parted heap (undocumented heap vs)
