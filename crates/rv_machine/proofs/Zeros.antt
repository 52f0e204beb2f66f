-- A list of zeros reads 0 everywhere.
use Rattle.std.proofs.Common.{◌≡◌, ℕ, List, get_or, arith, inl, inr}
use Rattle.std.specs.Prelude.{replicate}
use Rattle.std.proofs.Math.Path.{fun_ext}
use Rattle.std.proofs.lemmas.List.{get_or-replicate, get_or_past, length-replicate}
use Rattle.std.proofs.lemmas.Bool.{cases_lt}

abbrev pub zeros : ℕ → List ℕ
zeros n = replicate n 0

pub zeros_read : (n k : ℕ) → get_or (zeros n) k 0 ≡ 0
zeros_read n k =
    elim (cases_lt k n) [
      | inl h ↦ get_or-replicate n k 0 0 h
      | inr h ↦ get_or_past (zeros n) k 0 (omega (arith, length-replicate {A = ℕ} n 0))
    ]

abbrev pub reading : List ℕ → ℕ → ℕ
reading xs k = get_or xs k 0

abbrev pub nothing : ℕ → ℕ
nothing k = 0

pub zeros_are : (n : ℕ) → reading (zeros n) ≡ nothing
zeros_are n = fun_ext (zeros_read n)
