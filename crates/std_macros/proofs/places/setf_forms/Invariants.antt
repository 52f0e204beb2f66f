use Rattle.std.proofs.Common.{◌≡◌, ◌++◌, map, length}
use Rattle.std.specs.Option.{option_map}
use Rattle.lisp_forms.specs.Trees.{tree_of}
use Rattle.std_macros.specs.Places.{setf_forms}
use Rattle.std_macros.proofs.places.setf_forms.Given as goal

abbrev pub invariant-loop-rest : goal.invariant-loop-rest
invariant-loop-rest l = option_map (λ xs. map tree_of l.made.items ++ xs) (setf_forms l.rest) ≡ setf_forms l.arguments

abbrev pub decreases-loop-rest : goal.decreases-loop-rest
decreases-loop-rest l = length l.rest
