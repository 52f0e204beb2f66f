use Rattle.std.proofs.Common.{◌≡◌, ◌++◌, drop}
use Rattle.lambda_lists.specs.Readings.{bindings_of}
use Rattle.form_expander.proofs.parameter_lists.add_pairs.Given as goal

abbrev pub invariant-loop-binding : goal.invariant-loop-binding
invariant-loop-binding l = l.pairs.items ++ bindings_of (drop l.binding-index l.more) ≡ l.fn.pairs.items ++ bindings_of l.more
