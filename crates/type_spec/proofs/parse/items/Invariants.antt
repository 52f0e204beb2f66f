use Rattle.type_spec.proofs.Listing.{IsListing}
use Rattle.type_spec.proofs.parse.items.Given as goal

abbrev pub invariant-loop-rest : goal.invariant-loop-rest
invariant-loop-rest l = IsListing l.heap l.symbols l.fn.list l.items.items l.rest l.initial.room l.room

abbrev pub decreases-loop-rest : goal.decreases-loop-rest
decreases-loop-rest l = l.room
