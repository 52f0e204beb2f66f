use Rattle.std.proofs.Common.{◌≡◌, ◌++◌, drop}
use Rattle.std.specs.Option.{option_map}
use Rattle.std_macros.specs.Syntax.{each}
use Rattle.std_macros.specs.Loops.{step_at}
use Rattle.std_macros.proofs.loops.steps.Given as goal

abbrev pub invariant-loop-form : goal.invariant-loop-form
invariant-loop-form l = option_map (λ ys. l.steps.items ++ ys) (each (step_at l.heap) (drop l.form-index l.forms)) ≡ each (step_at l.heap) l.forms
