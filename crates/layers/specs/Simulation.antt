-- One layer of steps that goes along with another, step by steps (this project's own).
use Rattle.std.specs.Prelude.{◌≡◌, ℕ, suc, ◌≤◌, ◌<◌, ◌⊎◌}
use Rattle.layers.specs.Input.{Input}
use Rattle.layers.specs.Shown.{Seen, Runs, IsFull, NeedsNoLess, Covers, ComesTo}
use Rattle.layers.specs.Layer.{Steps, after}

-- Two runs on one input. As long as b runs, each step of a is some steps of b, or none while a measure falls, and each state
-- of b on the way is covered by a's state before the step or after it.
pub record Simulates (heap stack : ℕ) (a b : ℕ → Seen) : Type 0 where
  -- how far b is after so many steps of a
  pub at : ℕ → ℕ
  pub measure : ℕ → ℕ
  pub starts : at 0 ≡ 0
  pub first : Covers heap stack (a 0) (b 0)
  pub onward : (j : ℕ) → at j ≤ at (suc j)
  pub comes : (j : ℕ) → ComesTo (a j) (b (at j))
  pub goes : (j : ℕ) → (b (at j)).status ≡ Runs → (at j < at (suc j)) ⊎ (measure (suc j) < measure j)
  pub covers : (j : ℕ) → (b (at j)).status ≡ Runs → (k : ℕ) → at j ≤ k → k ≤ at (suc j) → Covers heap stack (a j) (b k) ⊎ Covers heap stack (a (suc j)) (b k)

-- ---- by a relation between states

-- one step of a from s, while b takes n steps from t and is in the relation again, or is full
pub record LeadsOn (heap stack : ℕ) {S T : Type 0} (a : Steps S) (b : Steps T) (measure : S → ℕ) (R : S → T → Type 0) (s : S) (t : T) (n : ℕ) : Type 0 where
  pub holds : R (a.step s) (after b.step n t) ⊎ (IsFull (b.seen (after b.step n t)) × NeedsNoLess (a.seen (a.step s)) (b.seen (after b.step n t)))
  pub goes : (b.seen t).status ≡ Runs → (0 < n) ⊎ (measure (a.step s) < measure s)
  pub covers : (b.seen t).status ≡ Runs → (x : ℕ) → x ≤ n → Covers heap stack (a.seen s) (b.seen (after b.step x t)) ⊎ Covers heap stack (a.seen (a.step s)) (b.seen (after b.step x t))

-- a relation that holds of the first states, in which b has come to what a shows, and that each step of a leads on
pub record IsSimulation (heap stack : ℕ) {S T : Type 0} (a : Steps S) (b : Steps T) (measure : S → ℕ) (R : S → T → Type 0) : Type 0 where
  pub starts : (i : Input) → R (a.first i) (b.first i)
  pub first : (i : Input) → Covers heap stack (a.seen (a.first i)) (b.seen (b.first i))
  pub comes : (s : S) (t : T) → R s t → ComesTo (a.seen s) (b.seen t)
  pub goes : (s : S) (t : T) → R s t → (n : ℕ) × LeadsOn heap stack a b measure R s t n
