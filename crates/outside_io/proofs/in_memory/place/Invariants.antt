use Rattle.std.proofs.Common.{◌≡◌, ℕ, ◌<◌, IfSome, false}
use Rattle.std.specs.Prelude.{slice_get}
use Rattle.std.specs.Str.{bytes_eq}
use Rattle.outside_io.proofs.in_memory.place.Given as goal

-- no entry so far has the name
abbrev pub invariant-loop-index : goal.invariant-loop-index
invariant-loop-index l = (k : ℕ) → k < l.index → IfSome (slice_get l.entries k) (λ e. bytes_eq l.name e.0 ≡ false)
