use Rattle.std.proofs.Common.{◌≡◌, ◌++◌, ◌∷◌, map, drop}
use Rattle.std.specs.List.{flat_map}
use Rattle.lisp_forms.specs.Trees.{tree_of}
use Rattle.std_macros.specs.Rules.{word}
use Rattle.std_macros.specs.Loops.{setter, step_sets}
use Rattle.std_macros.proofs.loops.step_setting.Given as goal

abbrev pub invariant-loop-step : goal.invariant-loop-step
invariant-loop-step l = map tree_of l.elements.items ++ flat_map step_sets (drop l.step-index l.steps) ≡ word (setter l.fn.order) ∷ flat_map step_sets l.steps
