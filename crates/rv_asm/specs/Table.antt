-- A map from labels to places beside the list of their marks (this project's).
use Rattle.std.specs.Prelude.{ℕ, ◌≡◌, ◌≤◌, ◌^◌, List, IsSome, All}
use Rattle.std.specs.Ordering.{nat_cmp}
use Rattle.std.specs.BTreeMap.{get, BTreeMap}
use Rattle.rv_asm.specs.declared.assembled.Mark.{Mark}
use Rattle.rv_asm.specs.declared.fault.AsmFault.{AsmFault}
use Rattle.rv_asm.specs.declared.fault.AsmFault.TheVariants as fault
use Rattle.rv_asm.specs.Places.{place_in}

-- The map has the places of the marks, none of which is above the greatest length of code.
pub record Agrees (marks : List Mark) (places : BTreeMap ℕ ℕ) : Type 0 where
  pub same : (q : ℕ) → get nat_cmp places q ≡ place_in marks q
  pub short : All (λ m. m.at ≤ 2 ^ 30) marks

-- the label has a place already
abbrev pub IsDoubleLabel : List Mark → ℕ → AsmFault → Type 0
IsDoubleLabel marks l e = IsSome (place_in marks l) × (e ≡ fault.DoubleLabel l)
