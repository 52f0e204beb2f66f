use Rattle.std.proofs.Common.{◌≡◌, ◌==◌, if◌then◌else◌, ◌++◌, map, take, drop}
use Rattle.icr_graph.proofs.links.Links.rename.Given as goal

abbrev pub invariant-loop-item : goal.invariant-loop-item
invariant-loop-item g l =
    l.item-items ≡ map (λ item. if g.I.Id.number_of item == g.I.Id.number_of l.fn.old then l.fn.new else item) (take l.item-index l.initial.item-items) ++ drop l.item-index l.initial.item-items
