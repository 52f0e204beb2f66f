-- Two sets of integers walked side by side, from border to border (this project's own).
use Rattle.std.specs.Prelude.{◌≡◌, ℤ, true, false, Bool, not, ◌&&◌, ◌||◌, int_le, List, [], ◌∷◌, Option, Some, None, if◌then◌else◌}
use Rattle.std.specs.List.{list_all}
use Rattle.type_lattice.specs.Borders.{is_within, is_before}
use Rattle.type_lattice.specs.declared.walk.Combination.{Combination}
use Rattle.type_lattice.specs.declared.walk.Combination.TheVariants.{Union, Meet}

-- the least of the borders that are left of two sets
abbrev pub next_border : List ℤ → List ℤ → Option ℤ
next_border [] [] = None
next_border [] (c ∷ cs) = Some c
next_border (b ∷ bs) [] = Some b
next_border (b ∷ bs) (c ∷ cs) = Some (if int_le b c then b else c)

-- whether the numbers from z on are in, and the borders that are left, once the walk has come to z
abbrev pub inside_from : Bool → List ℤ → ℤ → Bool
inside_from inside [] z = inside
inside_from inside (b ∷ bs) z = if int_le b z then not inside else inside

abbrev pub left_from : List ℤ → ℤ → List ℤ
left_from [] z = []
left_from (b ∷ bs) z = if int_le b z then bs else b ∷ bs

-- both, or one of them
abbrev pub combined : Combination → Bool → Bool → Bool
combined Union x y = x || y
combined Meet x y = x && y

-- what every border of two sets passes, a number passes
abbrev pub IsAmong : ℤ → List ℤ → List ℤ → Type 0
IsAmong z bs cs = (p : ℤ → Bool) → list_all p bs ≡ true → list_all p cs ≡ true → p z ≡ true

-- a number is in the first set and not in the second
pub record IsOutside (a : Bool) (bs : List ℤ) (b : Bool) (cs : List ℤ) (z : ℤ) : Type 0 where
  pub within : is_within a bs z ≡ true
  pub without : is_within b cs z ≡ false

-- the first set is not in the second: by each number below all borders, or by one of the borders
pub data Escapes (a : Bool) (bs : List ℤ) (b : Bool) (cs : List ℤ) : Type 0 where
  at_once : ((z : ℤ) → is_before z bs ≡ true → is_before z cs ≡ true → IsOutside a bs b cs z) → Escapes a bs b cs
  at_border : (z : ℤ) → IsAmong z bs cs → IsOutside a bs b cs z → Escapes a bs b cs
