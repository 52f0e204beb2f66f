use Rattle.std.proofs.Common.{◌≡◌, ◌++◌, drop}
use Rattle.std.specs.Option.{option_map}
use Rattle.lambda_lists.specs.LambdaLists.{each, variable}
use Rattle.lambda_lists.proofs.variables.variables.Given as goal

abbrev pub invariant-loop-value : goal.invariant-loop-value
invariant-loop-value l = option_map (λ ys. l.ids.items ++ ys) (each (variable l.symbols) (drop l.value-index l.values)) ≡ each (variable l.symbols) l.values
