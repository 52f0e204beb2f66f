use Rattle.std.proofs.Common.{◌≡◌, ◌++◌, map, drop}
use Rattle.lambda_lists.specs.LambdaLists.{keyword_in}
use Rattle.lambda_lists.specs.Readings.{keyed_of}
use Rattle.lambda_lists.proofs.key_forms.keywords.Given as goal

abbrev pub invariant-loop-key : goal.invariant-loop-key
invariant-loop-key l = l.ids.items ++ map keyword_in (map keyed_of (drop l.key-index l.keys)) ≡ map keyword_in (map keyed_of l.keys)
