use Rattle.std.proofs.Common.{drop}
use Rattle.lambda_lists.proofs.Keywords.{IsKeying}
use Rattle.lambda_lists.proofs.key_forms.with_keywords.Given as goal

abbrev pub invariant-loop-parameter : goal.invariant-loop-parameter
invariant-loop-parameter l = IsKeying l.parameters l.fn.symbols l.keys.items l.symbols (drop l.parameter-index l.parameters)
