-- Which functions close over one variable, and how often it is copied. (This project's own.)
use Rattle.std.specs.Prelude.{ℕ, zero, suc, ◌+◌, Bool, false, not, ◌&&◌, ◌||◌, if◌then◌else◌, List, [], ◌∷◌, map, drop, slice_index_or}
use Rattle.std.specs.List.{list_any}
use Rattle.core_form.specs.Facts.{has_number}
use Rattle.closed_copies.specs.Table.{Entry}

-- whether the function at a place is marked
abbrev pub is_marked : List Bool → ℕ → Bool
is_marked marks i = slice_index_or marks i false

-- whether a function closes over a variable, where the functions that are marked do
abbrev pub closes_over : ℕ → List Bool → Entry → Bool
closes_over x marks f = (has_number x f.refers || list_any (is_marked marks) f.calls) && not (has_number x f.inner)

-- one round more: the marks of all functions from those before
abbrev pub one_round : ℕ → List Entry → List Bool → List Bool
one_round x fs marks = map (closes_over x marks) fs

abbrev pub rounds : (n : ℕ) → ℕ → List Entry → List Bool → List Bool
rounds zero x fs marks = marks
rounds (suc n) x fs marks = rounds n x fs (one_round x fs marks)

abbrev pub unmarked : List Entry → List Bool
unmarked fs = map (λ f. false) fs

-- no chain of local functions without a repetition is longer than their number
abbrev pub marks_of : (locals : ℕ) → ℕ → List Entry → List Bool
marks_of locals x fs = rounds (locals + 1) x fs (unmarked fs)

-- ---- counting

abbrev pub one_if : Bool → ℕ
one_if b = if b then 1 else 0

abbrev pub count_true : List Bool → ℕ
count_true [] = 0
count_true (b ∷ bs) = one_if b + count_true bs

-- how many of these places are marked
abbrev pub count_marked : List Bool → List ℕ → ℕ
count_marked marks [] = 0
count_marked marks (i ∷ is) = one_if (is_marked marks i) + count_marked marks is

-- how often a variable is copied: by the references to local functions at these places, and by each function made
abbrev pub copies_with : (locals : ℕ) → (calls : List ℕ) → List Bool → ℕ
copies_with locals calls marks = count_marked marks calls + count_true (drop locals marks)

abbrev pub tally : (ℕ → ℕ) → List ℕ → ℕ
tally f [] = 0
tally f (x ∷ xs) = f x + tally f xs

-- the copies of these variables together
abbrev pub copies_of_all : (locals : ℕ) → (calls : List ℕ) → List Entry → List ℕ → ℕ
copies_of_all locals calls fs xs = tally (λ x. copies_with locals calls (marks_of locals x fs)) xs
