-- Layers: what some code shows for each input at each moment (this project's own).
use Rattle.std.specs.Prelude.{◌≡◌, ◌≢◌, ℕ, zero, suc}
use Rattle.layers.specs.Input.{Input}
use Rattle.layers.specs.Shown.{Seen, Runs, Ended, Astray, IsFull, IsLater}

-- A layer: for each input and each moment what is seen then. The moments of a machine are numbers
-- of steps; those of an evaluator are amounts of fuel that it was given.
abbrev pub Layer : Type 0
Layer = (input : Input) → (moment : ℕ) → Seen

-- a layer goes on until it no longer runs, and then stays
pub record IsLawful (a : Layer) : Type 0 where
  pub later : (i : Input) (k : ℕ) → IsLater (a i k) (a i (suc k))
  pub stays : (i : Input) (k : ℕ) → (a i k).status ≢ Runs → a i (suc k) ≡ a i k

-- no layer but the machine is ever full
abbrev pub IsNeverFull : Layer → Type 0
IsNeverFull a = (i : Input) (k : ℕ) → ¬ IsFull (a i k)

-- it never comes to the end without a meaning
abbrev pub IsNeverAstray : Layer → Type 0
IsNeverAstray a = (i : Input) (k : ℕ) → (a i k).status ≢ Ended Astray

-- ---- layers of steps

abbrev pub after : {S : Type 0} → (S → S) → ℕ → S → S
after step zero s = s
after step (suc k) s = step (after step k s)

-- a code: its first state for each input, its step, and what is seen of a state
pub record Steps (S : Type 0) : Type 0 where
  pub first : (input : Input) → S
  pub step : S → S
  pub seen : S → Seen

-- its layer
abbrev pub layer_of : {S : Type 0} → Steps S → Layer
layer_of code i k = code.seen (after code.step k (code.first i))

-- a code whose state is shown later after each step, and stays once it no longer runs
pub record IsLawfulCode {S : Type 0} (code : Steps S) : Type 0 where
  pub later : (s : S) → IsLater (code.seen s) (code.seen (code.step s))
  pub stays : (s : S) → (code.seen s).status ≢ Runs → code.step s ≡ s
