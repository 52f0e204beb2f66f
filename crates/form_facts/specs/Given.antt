-- Which words are lost because what they are given to is no word any more. (This project's own.)
use Rattle.std.specs.Prelude.{◌≡◌, ℕ, ◌==◌, if◌then◌else◌, List, [], flat_map, filter, unwrap_or, option_map, nat_eq}
use Rattle.std.specs.declared.vec.Vec.{Vec}
use Rattle.std.specs.declared.alloc.Global.{Global}
use Rattle.std.specs.HashMap.{HashMap, get}
use Rattle.core_form.specs.Facts.{has_number, union, without, variable_under}
use Rattle.form_facts.specs.Parts.{Part, sets}
use Rattle.form_facts.specs.Words.{next_words}
use Rattle.form_facts.specs.View.{items_of}

-- the variable that a part gives to this one, under any number of types
abbrev pub given_by : (to : ℕ) → Part → List ℕ
given_by y (sets x e) = if y == x then variable_under e else []
given_by y _ = []

-- the variables that a form of these parts gives to this one; and to all of these
abbrev pub given_to : List Part → (to : ℕ) → List ℕ
given_to ps y = flat_map (given_by y) ps

abbrev pub given_to_all : List Part → (to : List ℕ) → List ℕ
given_to_all ps ys = flat_map (given_to ps) ys

-- what the table of a form has under a number
abbrev pub at_number : {S : Type 0} → HashMap ℕ (Vec ℕ Global) S → ℕ → List ℕ
at_number table y = unwrap_or (option_map items_of (get nat_eq table y)) []

abbrev pub TellsGiven : {S : Type 0} → List Part → HashMap ℕ (Vec ℕ Global) S → Type 0
TellsGiven ps table = (y : ℕ) → at_number table y ≡ given_to ps y

-- what it has under all of these
abbrev pub at_numbers : {S : Type 0} → HashMap ℕ (Vec ℕ Global) S → List ℕ → List ℕ
at_numbers table ys = flat_map (at_number table) ys

-- the words that are lost next, each once: those of the words among these variables, which are given to words just lost, that weren't lost before
abbrev pub lost_next : (given words lost : List ℕ) → List ℕ
lost_next given words lost = union [] (without (filter (λ x. has_number x words) given) lost)

-- what the first round takes away
abbrev pub LosesFirst : (reads : List ℕ) → List Part → (words first : List ℕ) → Type 0
LosesFirst reads ps words first = (x : ℕ) → has_number x first ≡ has_number x (without words (next_words reads ps words))
