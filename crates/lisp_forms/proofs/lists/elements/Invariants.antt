use Rattle.std.proofs.Common.{◌-◌, length}
use Rattle.lisp_forms.proofs.Walks.{IsWalk}
use Rattle.lisp_forms.proofs.lists.elements.Given as goal

abbrev pub invariant-loop-rest : goal.invariant-loop-rest
invariant-loop-rest l = IsWalk l.heap l.fn.form l.items.items l.rest

abbrev pub decreases-loop-rest : goal.decreases-loop-rest
decreases-loop-rest l = length l.heap - length l.items.items
