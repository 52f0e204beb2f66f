use Rattle.std.proofs.Common.{drop}
use Rattle.type_lattice.proofs.Parts.{GoesOn}
use Rattle.type_lattice.proofs.spec.+spec.Given as goal

abbrev pub invariant-parts_set-loop-part : goal.invariant-parts_set-loop-part
invariant-parts_set-loop-part l = GoesOn l.how l.symbols l.parts l.all (drop l.part-index l.parts)
