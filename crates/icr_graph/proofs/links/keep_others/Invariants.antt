use Rattle.std.proofs.Common.{◌==◌, not}
use Rattle.std.proofs.lemmas.List.Filters.{FiltersInPlace}
use Rattle.icr_graph.proofs.links.keep_others.Given as goal

abbrev pub invariant-loop-index : goal.invariant-loop-index
invariant-loop-index g l = FiltersInPlace (λ item. not (g.I.Id.number_of item == g.I.Id.number_of l.id)) l.initial.items l.items l.kept l.index
