use Rattle.std.proofs.Common.{◌+◌, ◌*◌}
use Rattle.type_spec.proofs.Parting.{IsParting}
use Rattle.type_spec.proofs.parse.+parse.Given as goal

-- each call leaves less room, or goes from an operator to its operands, or from a list to its parts
abbrev pub decreases-call : goal.decreases-call
decreases-call l = 3 * l.room.now + 2

abbrev pub decreases-parts : goal.decreases-parts
decreases-parts l = 3 * l.room.now + 1

abbrev pub decreases-tree : goal.decreases-tree
decreases-tree l = 3 * l.room.now

abbrev pub invariant-parts-loop-alloc : goal.invariant-parts-loop-alloc
invariant-parts-loop-alloc l = IsParting l.heap l.symbols l.fn.list l.parts.items l.rest l.initial.room l.room

abbrev pub decreases-parts-loop-alloc : goal.decreases-parts-loop-alloc
decreases-parts-loop-alloc l = l.room
