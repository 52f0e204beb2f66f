-- Layers whose moments are amounts of fuel, and layers that follow one (this project's own).
use Rattle.std.specs.Prelude.{◌≡◌, ℕ, suc, ◌+◌, ◌≤◌, ◌<◌}
use Rattle.layers.specs.Input.{Input}
use Rattle.layers.specs.Shown.{Seen, Runs, NeedsNoLess}
use Rattle.layers.specs.Layer.{Layer, IsLawful}

-- The moments of this layer are amounts of fuel: a run takes no more than it is given, takes all of it where it could go
-- on, and is the same when given just what it takes.
pub record IsByFuel (a : Layer) : Type 0 where
  pub lawful : IsLawful a
  pub within : (i : Input) (n : ℕ) → (a i n).fuel ≤ n
  pub spent : (i : Input) (n : ℕ) → (a i n).status ≡ Runs → (a i n).fuel ≡ n
  pub enough : (i : Input) (n : ℕ) → a i (a i n).fuel ≡ a i n

-- b shows exactly what a shows and needs no more; where a could go on, b's next step takes more fuel
pub record Arrives (a b next : Seen) : Type 0 where
  pub output : a.output ≡ b.output
  pub status : a.status ≡ b.status
  pub fuel : a.fuel ≡ b.fuel
  pub needs : NeedsNoLess a b
  pub short : a.status ≡ Runs → a.fuel < next.fuel

-- layer b comes to where it shows exactly what layer a shows with each amount of fuel
abbrev pub FollowsByFuel : (a b : Layer) → Type 0
FollowsByFuel a b = (i : Input) (n : ℕ) → (k : ℕ) × Arrives (a i n) (b i k) (b i (suc k))

-- the fuel of layer b rises by so much at most before its first step and at each step
pub record RisesBy (most : ℕ) (b : Layer) : Type 0 where
  pub first : (i : Input) → (b i 0).fuel ≤ most
  pub next : (i : Input) (k : ℕ) → (b i (suc k)).fuel ≤ (b i k).fuel + most
