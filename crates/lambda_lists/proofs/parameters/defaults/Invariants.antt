use Rattle.std.proofs.Common.{◌≡◌, ◌++◌, map, drop}
use Rattle.std.specs.Option.{option_map}
use Rattle.lambda_lists.specs.LambdaLists.{each, default_at}
use Rattle.lambda_lists.specs.Readings.{default_of}
use Rattle.lambda_lists.proofs.parameters.defaults.Given as goal

abbrev pub invariant-loop-value : goal.invariant-loop-value
invariant-loop-value l = option_map (λ ys. map default_of l.defaults.items ++ ys) (each (default_at l.section l.heap l.symbols) (drop l.value-index l.values)) ≡ each (default_at l.section l.heap l.symbols) l.values
