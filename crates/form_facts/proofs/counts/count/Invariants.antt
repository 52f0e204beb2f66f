use Rattle.std.proofs.Common.{◌≡◌, ◌==◌, ℕ, count_by, nat_eq, unwrap_or, take}
use Rattle.std.specs.HashMap.{get}
use Rattle.form_facts.proofs.counts.count.Given as goal

abbrev pub invariant-loop-number : goal.invariant-loop-number
invariant-loop-number l =
    (n : ℕ) → unwrap_or (get nat_eq l.counts n) 0 ≡ count_by (λ x. x == n) (take l.number-index l.numbers)
