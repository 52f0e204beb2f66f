use Rattle.std.proofs.Common.{◌≡◌, ◌+◌, ◌≤◌, drop}
use Rattle.closed_copies.specs.Marks.{count_marked}
use Rattle.closed_copies.proofs.marks.count_marked.Given as goal

abbrev pub invariant-loop-place : goal.invariant-loop-place
invariant-loop-place l =
    (l.count + count_marked l.marks (drop l.place-index l.places) ≡ count_marked l.marks l.places) × (l.count ≤ l.place-index)
