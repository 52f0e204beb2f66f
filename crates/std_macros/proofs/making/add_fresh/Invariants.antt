use Rattle.std.proofs.Common.{◌≡◌, ◌+◌, ◌-◌, ◌++◌, map}
use Rattle.lisp_forms.specs.Trees.{tree_of}
use Rattle.std_macros.specs.Rules.{fresh_from}
use Rattle.std_macros.proofs.making.add_fresh.Given as goal

abbrev pub invariant-loop-offset : goal.invariant-loop-offset
invariant-loop-offset l = map tree_of l.elements.items ++ fresh_from (l.fn.first + l.offset) (l.fn.count - l.offset) ≡ map tree_of l.initial.elements.items ++ fresh_from l.fn.first l.fn.count
