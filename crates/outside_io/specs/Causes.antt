-- What is behind a fault: a count that has risen.
use Rattle.std.specs.Prelude.{◌≡◌, ℕ, ◌+◌, ◌-◌, ◌^◌, ◌≤◌, min, Bool, true}

-- a count after one more: it stays at the last number of 64 bits
abbrev pub one_more : ℕ → ℕ
one_more count = min (count + 1) (2 ^ 64 - 1)

-- a count has risen, or stands at the last number of 64 bits
abbrev pub Rose : ℕ → ℕ → Type 0
Rose before now = one_more before ≤ now

-- the count didn't fall, and a fault is told only where it rose
pub record HasCause (before now : ℕ) (told : Bool) : Type 0 where
  pub later : before ≤ now
  pub rose : told ≡ true → Rose before now
