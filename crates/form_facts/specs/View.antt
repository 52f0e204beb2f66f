-- What is told of a top-level form before it is compiled. (This project's own.)
use Rattle.std.specs.Prelude.{◌≡◌, ℕ, List, [], map, slice_get, unwrap_or}
use Rattle.std.specs.declared.vec.Vec.{Vec}
use Rattle.std.specs.declared.alloc.Global.{Global}
use Rattle.core_form.specs.Facts.{FunctionText, Facts, has_number, closed_of}

pub record View : Type 0 where
  -- the variables, blocks and tagbodies that have a cell
  pub cells : List ℕ
  -- the word variables
  pub words : List ℕ
  -- the closed variables of each function, in the order of the functions
  pub closed : List (List ℕ)

abbrev pub items_of : Vec ℕ Global → List ℕ
items_of v = v.items

abbrev pub lists_of : List (Vec ℕ Global) → List (List ℕ)
lists_of vs = map items_of vs

abbrev pub make_view : (cells words : List ℕ) → List (Vec ℕ Global) → View
make_view cells words closed = record { cells = cells; words = words; closed = lists_of closed }

-- the list at an index; an empty one where there is none
abbrev pub list_at : List (List ℕ) → ℕ → List ℕ
list_at lists n = unwrap_or (slice_get lists n) []

-- what is told is exactly what the facts of the form say, for these functions
pub record Knows (f : View) (facts : Facts) (texts : List FunctionText) : Type 0 where
  pub cells : (n : ℕ) → has_number n f.cells ≡ has_number n facts.cells
  pub words : (n : ℕ) → has_number n f.words ≡ has_number n facts.words
  pub closed : f.closed ≡ map (closed_of facts) texts
