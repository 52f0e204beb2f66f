use Rattle.std.proofs.Common.{◌≡◌, ◌==◌, length}
use Rattle.icr_graph.specs.Lists.{behind_by}
use Rattle.icr_graph.proofs.links.behind.Given as goal

abbrev pub invariant-loop-rest : goal.invariant-loop-rest
invariant-loop-rest g l = behind_by (λ item. g.I.Id.number_of item == g.I.Id.number_of l.id) l.rest ≡ behind_by (λ item. g.I.Id.number_of item == g.I.Id.number_of l.id) l.fn.items

abbrev pub decreases-loop-rest : goal.decreases-loop-rest
decreases-loop-rest g l = length l.rest
