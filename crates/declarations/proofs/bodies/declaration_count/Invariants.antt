use Rattle.std.proofs.Common.{◌≡◌, ◌++◌, drop, take}
use Rattle.declarations.specs.Bodies.{parted}
use Rattle.declarations.proofs.bodies.declaration_count.Given as goal

abbrev pub invariant-loop-count : goal.invariant-loop-count
invariant-loop-count l =
    (take l.count l.body ++ (parted l.heap (drop l.count l.body)).declarations ≡ (parted l.heap l.body).declarations) × ((parted l.heap (drop l.count l.body)).forms ≡ (parted l.heap l.body).forms)
