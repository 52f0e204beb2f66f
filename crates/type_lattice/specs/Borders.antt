-- Sets of integers by their borders: the inversion lists of the Unicode Technical Standard 18, with negative numbers too.
use Rattle.std.specs.Prelude.{ℤ, Bool, true, not, ◌&&◌, int_lt, int_le, List, [], ◌∷◌, Option, Some, None, if◌then◌else◌}

-- whether a number is in the set: below the first border all are or none is, and at each border this changes
abbrev pub is_within : (below : Bool) → (borders : List ℤ) → ℤ → Bool
is_within below [] z = below
is_within below (b ∷ bs) z = if int_lt z b then below else is_within (not below) bs z

-- a number is below the first of these, if there is one
abbrev pub is_before : ℤ → List ℤ → Bool
is_before z [] = true
is_before z (b ∷ bs) = int_lt z b

-- each number is below the next
abbrev pub is_rising : List ℤ → Bool
is_rising [] = true
is_rising (b ∷ bs) = is_before b bs && is_rising bs

-- a number is at or above where a range starts, and below where it ends
abbrev pub is_started : (start : Option ℤ) → ℤ → Bool
is_started None z = true
is_started (Some s) z = int_le s z

abbrev pub is_not_ended : (end : Option ℤ) → ℤ → Bool
is_not_ended None z = true
is_not_ended (Some e) z = int_lt z e

-- a bound passes a test, or there is none
abbrev pub passes : (ℤ → Bool) → Option ℤ → Bool
passes p None = true
passes p (Some z) = p z
