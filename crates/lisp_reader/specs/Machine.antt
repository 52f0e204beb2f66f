-- Reading token by token, with a stack of what is begun: what the code does (this project's own).
use Rattle.std.specs.Prelude.{ℕ, Bool, true, false, List, [], ◌∷◌, ◌++◌, Option, Some, None, Result, Ok, Err, map}
use Rattle.lisp_base.specs.Sort.{nil}
use Rattle.lisp_base.specs.declared.values.Val.{Val}
use Rattle.lisp_reader.specs.declared.fault.ReadKind.{ReadKind}
use Rattle.lisp_reader.specs.declared.fault.ReadKind.TheVariants.{Eof}
use Rattle.lisp_reader.specs.declared.token.Prefix.{Prefix}
use Rattle.lisp_reader.specs.declared.forms.TopRead.{TopRead}
use Rattle.lisp_reader.specs.declared.level.Shape.{Shape}
use Rattle.lisp_reader.specs.declared.level.Shape.TheVariants as sh
use Rattle.lisp_reader.specs.Tokens.{Token, Placed, opening, vector, closing, dot, prefix, atom, bad}
use Rattle.lisp_reader.specs.Building.{Stock, top_form, atom_value, prefix_value, list_value, vector_value}
use Rattle.lisp_reader.specs.Reading.{Refusal, refusal, refusal_at, fault}

-- what is begun at an offset: a list, a list with its dot, and with the form after that, a vector, a prefix
pub data Level : Type 0 where
  list_level : (at : ℕ) → List Val → Level
  dot_level : (at : ℕ) → List Val → Level
  tail_level : (at : ℕ) → List Val → Val → Level
  vector_level : (at : ℕ) → List Val → Level
  prefix_level : (at : ℕ) → Prefix → Level

-- the innermost level first
pub record World : Type 0 where
  pub levels : List Level
  pub tops : List TopRead
  pub stock : Stock

abbrev pub world : List Level → List TopRead → Stock → World
world ls tops s = record { levels = ls; tops = tops; stock = s }

abbrev pub some_value : List Val → Bool
some_value [] = false
some_value (v ∷ vs) = true

abbrev pub shape_of : Level → Shape
shape_of (list_level at vs) = sh.List (some_value vs)
shape_of (dot_level at vs) = sh.Dot
shape_of (tail_level at vs v) = sh.Tail
shape_of (vector_level at vs) = sh.Vector
shape_of (prefix_level at f) = sh.Prefix f

abbrev pub shapes_of : List Level → List Shape
shapes_of ls = map shape_of ls

-- where a value goes: it is an element, or the form after a dot
abbrev pub with_value : Level → Val → Level
with_value (list_level at vs) v = list_level at (vs ++ v ∷ [])
with_value (dot_level at vs) v = tail_level at vs v
with_value (tail_level at vs u) v = tail_level at vs u
with_value (vector_level at vs) v = vector_level at (vs ++ v ∷ [])
with_value (prefix_level at f) v = prefix_level at f

-- a value that is whole goes where it belongs; after a prefix it makes a list with it, which goes on in turn
unfoldable pub delivered : List Level → List TopRead → ℕ → Val × Stock → World
delivered [] tops at v = world [] (tops ++ top_form at v.0 ∷ []) v.1
delivered (list_level o vs ∷ ls) tops at v = world (with_value (list_level o vs) v.0 ∷ ls) tops v.1
delivered (dot_level o vs ∷ ls) tops at v = world (with_value (dot_level o vs) v.0 ∷ ls) tops v.1
delivered (tail_level o vs u ∷ ls) tops at v = world (with_value (tail_level o vs u) v.0 ∷ ls) tops v.1
delivered (vector_level o vs ∷ ls) tops at v = world (with_value (vector_level o vs) v.0 ∷ ls) tops v.1
delivered (prefix_level o f ∷ ls) tops at v = delivered ls tops o (prefix_value o f v)

unfoldable pub closed : List Level → List TopRead → Stock → World
closed [] tops s = world [] tops s
closed (list_level o vs ∷ ls) tops s = delivered ls tops o (list_value o nil (vs, s))
closed (dot_level o vs ∷ ls) tops s = world (dot_level o vs ∷ ls) tops s
closed (tail_level o vs v ∷ ls) tops s = delivered ls tops o (list_value o v (vs, s))
closed (vector_level o vs ∷ ls) tops s = delivered ls tops o (vector_value (vs, s))
closed (prefix_level o f ∷ ls) tops s = world (prefix_level o f ∷ ls) tops s

unfoldable pub dotting : List Level → List Level
dotting [] = []
dotting (list_level o vs ∷ ls) = dot_level o vs ∷ ls
dotting (dot_level o vs ∷ ls) = dot_level o vs ∷ ls
dotting (tail_level o vs v ∷ ls) = tail_level o vs v ∷ ls
dotting (vector_level o vs ∷ ls) = vector_level o vs ∷ ls
dotting (prefix_level o f ∷ ls) = prefix_level o f ∷ ls

abbrev pub delivered_if : Option (Val × Stock) → ℕ → World → World
delivered_if None at w = w
delivered_if (Some v) at w = delivered w.levels w.tops at v

-- the world after a token that may come
unfoldable pub moved : World → ℕ → Token → World
moved w at opening = world (list_level at [] ∷ w.levels) w.tops w.stock
moved w at vector = world (vector_level at [] ∷ w.levels) w.tops w.stock
moved w at closing = closed w.levels w.tops w.stock
moved w at dot = world (dotting w.levels) w.tops w.stock
moved w at (prefix f) = world (prefix_level at f ∷ w.levels) w.tops w.stock
moved w at (atom a) = delivered_if (atom_value a w.stock) at w
moved w at (bad kind) = w

abbrev pub stepped : World → (end : ℕ) → Placed → Option ReadKind → Result World Refusal
stepped w end p None = Ok (moved w p.at p.token)
stepped w end p (Some kind) = Err (refusal_at p.at end kind)

unfoldable pub step : World → (end : ℕ) → Placed → Result World Refusal
step w end p = stepped w end p (fault (shapes_of w.levels) w.stock.symbols p.token)

unfoldable pub ended : List Level → World → (end : ℕ) → Result World Refusal
ended [] w end = Ok w
ended (l ∷ ls) w end = Err (refusal Eof end)

abbrev pub then_do : Result World Refusal → (World → Result World Refusal) → Result World Refusal
then_do (Ok w) f = f w
then_do (Err e) f = Err e

unfoldable pub run : World → (end : ℕ) → List Placed → Result World Refusal
run w end [] = ended w.levels w end
run w end (p ∷ ps) = then_do (step w end p) (λ v. run v end ps)
