-- Lists of numbers, and maps from numbers. This project's own.
use Rattle.std.specs.Prelude.{ℕ, ◌-◌, length, take, drop, Bool, true, ◌==◌, not, ◌&&◌, if◌then◌else◌, List, [], ◌∷◌, map, filter, filter_map, Option, Some, None, option_map}
use Rattle.std.specs.List.{list_any}

-- whether a number is in a list
abbrev pub has_number : ℕ → List ℕ → Bool
has_number n numbers = list_any (λ m. m == n) numbers

-- the list without a number
abbrev pub without : ℕ → List ℕ → List ℕ
without n numbers = filter (λ m. not (m == n)) numbers

-- a number, or the new one in the place of the old
abbrev pub renumber : ℕ → ℕ → ℕ → ℕ
renumber old new n = if n == old then new else n

-- the list with the new number wherever the old one stood
abbrev pub renumbered : ℕ → ℕ → List ℕ → List ℕ
renumbered old new numbers = map (renumber old new) numbers

-- one number or none, as a list
abbrev pub listed : Option ℕ → List ℕ
listed None = []
listed (Some n) = n ∷ []

-- the numbers that are there
abbrev pub those_there : List (Option ℕ) → List ℕ
those_there numbers = filter_map (λ n. n) numbers

-- one number or none, and not this one
abbrev pub other_than : ℕ → Option ℕ → Option ℕ
other_than n None = None
other_than n (Some m) = if m == n then None else Some m

-- the numbers of what stands under a number, of nothing none
abbrev pub numbers_of : {A : Type 0} → (A → List ℕ) → Option A → List ℕ
numbers_of f None = []
numbers_of f (Some a) = f a

-- the map with one entry changed, where it is there
abbrev pub changed : {A : Type 0} → (A → A) → ℕ → (ℕ → Option A) → ℕ → Option A
changed f at entries n = if n == at then option_map f (entries n) else entries n

-- the map with the entries of these numbers changed, where they are there
abbrev pub touched : {A : Type 0} → List ℕ → (A → A) → (ℕ → Option A) → ℕ → Option A
touched numbers f entries n = if has_number n numbers then option_map f (entries n) else entries n

-- the map with every entry changed
abbrev pub each : {A : Type 0} → (A → A) → (ℕ → Option A) → ℕ → Option A
each f entries n = option_map f (entries n)

-- the list without its last element
abbrev pub but_last : {A : Type 0} → List A → List A
but_last xs = take (length xs - 1) xs

-- what stands behind the first element that passes a test, and what stands up to it
abbrev pub behind_by : {A : Type 0} → (A → Bool) → List A → List A
behind_by test [] = []
behind_by test (x ∷ xs) = if test x then xs else behind_by test xs

abbrev pub up_to_by : {A : Type 0} → (A → Bool) → List A → List A
up_to_by test [] = []
up_to_by test (x ∷ xs) = if test x then x ∷ [] else x ∷ up_to_by test xs

-- the numbers behind one in a list, and those up to it
abbrev pub behind : ℕ → List ℕ → List ℕ
behind n numbers = behind_by (λ m. m == n) numbers

abbrev pub up_to : ℕ → List ℕ → List ℕ
up_to n numbers = up_to_by (λ m. m == n) numbers

-- whether no number is in a list twice
abbrev pub are_distinct : List ℕ → Bool
are_distinct [] = true
are_distinct (n ∷ ns) = not (has_number n ns) && are_distinct ns

-- the last element alone
abbrev pub last_alone : {A : Type 0} → List A → List A
last_alone xs = drop (length xs - 1) xs
