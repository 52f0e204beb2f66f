use Rattle.std.proofs.Common.{◌≡◌, ◌++◌, map, drop}
use Rattle.lisp_forms.specs.Trees.{tree_of}
use Rattle.std_macros.specs.Loops.{step_binding}
use Rattle.std_macros.proofs.loops.step_bindings.Given as goal

abbrev pub invariant-loop-step : goal.invariant-loop-step
invariant-loop-step l = map tree_of l.made.items ++ map step_binding (drop l.step-index l.steps) ≡ map step_binding l.steps
