use Rattle.std.proofs.Common.{◌≡◌, ◌-◌, suc, length}
use Rattle.ir_ids.specs.Entries.{map_of}
use Rattle.icr_convert.proofs.numbered.put.Given as goal

abbrev pub invariant-loop-list : goal.invariant-loop-list
invariant-loop-list g l = map_of l.list.items ≡ map_of l.initial.list.items

abbrev pub decreases-loop-list : goal.decreases-loop-list
decreases-loop-list g l = suc l.place - length l.list.items
