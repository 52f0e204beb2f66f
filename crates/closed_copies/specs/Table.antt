-- The functions of a form as their closed variables need them: what each refers to, calls and binds. (This project's own.)
use Rattle.std.specs.Prelude.{ℕ, ◌+◌, ◌==◌, if◌then◌else◌, List, [], ◌∷◌, ◌++◌, Option, Some, None, flat_map}
use Rattle.core_form.specs.Tree.{Lambda}
use Rattle.core_form.specs.Facts.{lookup, union}
use Rattle.closed_copies.specs.Events.{Event, refers, goes, binds, opens, calls, makes, defines, stands, lambda_events}

abbrev pub as_list : Option ℕ → List ℕ
as_list None = []
as_list (Some n) = n ∷ []

-- the place of the first number of a list that is this, counted from i
abbrev pub place_from : (i : ℕ) → ℕ → List ℕ → Option ℕ
place_from i n [] = None
place_from i n (m ∷ ms) = if n == m then Some i else place_from (i + 1) n ms

-- ---- what an event tells

abbrev pub tag_of : Event → List (ℕ × ℕ)
tag_of (stands t b) = (t, b) ∷ []
tag_of _ = []

abbrev pub number_of : Event → List ℕ
number_of (defines f t) = f ∷ []
number_of _ = []

abbrev pub referred_of : (tags : List (ℕ × ℕ)) → Event → List ℕ
referred_of tags (refers x) = x ∷ []
referred_of tags (goes t) = as_list (lookup t tags)
referred_of tags _ = []

-- the place of a local function among these
abbrev pub called_of : (functions : List ℕ) → Event → List ℕ
called_of functions (calls f) = as_list (place_from 0 f functions)
called_of functions _ = []

abbrev pub bound_of : Event → List ℕ
bound_of (binds x) = x ∷ []
bound_of _ = []

abbrev pub opened_of : Event → List ℕ
opened_of (opens b) = b ∷ []
opened_of _ = []

-- ---- functions

pub record Entry : Type 0 where
  -- the variables to which it refers and the blocks and tagbodies that it leaves
  pub refers : List ℕ
  -- the places of the local functions to which it refers
  pub calls : List ℕ
  -- what is bound inside it
  pub inner : List ℕ

abbrev pub entry_from : (tags : List (ℕ × ℕ)) (functions : List ℕ) → List Event → Entry
entry_from tags functions es = record {
  refers = flat_map (referred_of tags) es;
  calls = flat_map (called_of functions) es;
  inner = flat_map bound_of es ++ flat_map opened_of es;
}

abbrev pub entry : (tags : List (ℕ × ℕ)) (functions : List ℕ) → Lambda → Entry
entry tags functions l = entry_from tags functions (lambda_events l)

abbrev pub local_entry : (tags : List (ℕ × ℕ)) (functions : List ℕ) → Event → List Entry
local_entry tags functions (defines f t) = entry tags functions t.lambda ∷ []
local_entry tags functions _ = []

abbrev pub made_entry : (tags : List (ℕ × ℕ)) (functions : List ℕ) → Event → List Entry
made_entry tags functions (makes l) = entry tags functions l ∷ []
made_entry tags functions _ = []

-- the local functions in the order of their numbers, and then the others
abbrev pub entries : (tags : List (ℕ × ℕ)) (functions : List ℕ) → List Event → List Entry
entries tags functions es = flat_map (local_entry tags functions) es ++ flat_map (made_entry tags functions) es

-- all to which these functions refer, each once, behind those that are there
abbrev pub all_referred : List ℕ → List Entry → List ℕ
all_referred xs [] = xs
all_referred xs (f ∷ fs) = all_referred (union xs f.refers) fs
