-- That one layer keeps what another means (this project's own).
use Rattle.std.specs.Prelude.{ℕ}
use Rattle.layers.specs.Input.{Input}
use Rattle.layers.specs.Shown.{Covers, ComesTo}
use Rattle.layers.specs.Layer.{Layer}

-- Layer b keeps the meaning of layer a, but that with a heap of so many bytes and stacks of so many bytes it may be full.
pub record Keeps (heap stack : ℕ) (a b : Layer) : Type 0 where
  -- what b shows at any moment, a shows at some moment
  pub back : (i : Input) (k : ℕ) → (j : ℕ) × Covers heap stack (a i j) (b i k)
  -- what a shows at any moment, b shows at some moment, or is full
  pub forth : (i : Input) (j : ℕ) → (k : ℕ) × ComesTo (a i j) (b i k)
