use Rattle.std.proofs.Common.{◌≡◌, ◌++◌, map, length}
use Rattle.std.specs.Prelude.{List}
use Rattle.std.specs.Option.{option_map}
use Rattle.expansion.specs.Forms.{settings}
use Rattle.expansion.specs.Sketches.{Sketch}
use Rattle.form_expander.specs.Reading.{sketch_of}
use Rattle.form_expander.proofs.plans_of_variables.settings.Given as goal

abbrev pub invariant-loop-rest : goal.invariant-loop-rest
invariant-loop-rest l =
    option_map (λ (xs : List Sketch). map sketch_of l.parts.items ++ xs) (settings l.symbols l.rest) ≡ settings l.symbols l.arguments

abbrev pub decreases-loop-rest : goal.decreases-loop-rest
decreases-loop-rest l = length l.rest
