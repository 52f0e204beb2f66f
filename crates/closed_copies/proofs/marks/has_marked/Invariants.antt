use Rattle.std.proofs.Common.{◌≡◌, drop}
use Rattle.std.specs.List.{list_any}
use Rattle.closed_copies.specs.Marks.{is_marked}
use Rattle.closed_copies.proofs.marks.has_marked.Given as goal

abbrev pub invariant-loop-place : goal.invariant-loop-place
invariant-loop-place l =
    list_any (is_marked l.marks) (drop l.place-index l.places) ≡ list_any (is_marked l.marks) l.places
