use Rattle.std.proofs.Common.{◌≡◌, ◌++◌, map, drop}
use Rattle.std.specs.Option.{option_map}
use Rattle.lambda_lists.specs.LambdaLists.{each, auxiliary_at}
use Rattle.lambda_lists.specs.Readings.{binding_of}
use Rattle.lambda_lists.proofs.parameters.auxiliaries.Given as goal

abbrev pub invariant-loop-value : goal.invariant-loop-value
invariant-loop-value l = option_map (λ ys. map binding_of l.bindings.items ++ ys) (each (auxiliary_at l.heap l.symbols) (drop l.value-index l.values)) ≡ each (auxiliary_at l.heap l.symbols) l.values
