-- What an arena holds: a map from numbers to values. This project's own.
use Rattle.std.specs.Prelude.{ℕ, ◌==◌, if◌then◌else◌, List, slice_index_or, Option, None}

-- the value of each live number, where the slots are those of the numbers from 0 on
abbrev pub map_of : {T : Type 0} → List (Option T) → ℕ → Option T
map_of slots number = slice_index_or slots number None

-- the map with another entry at one number
abbrev pub with_entry : {T : Type 0} → (ℕ → Option T) → ℕ → Option T → ℕ → Option T
with_entry entries at entry number = if number == at then entry else entries number
