use Rattle.std.proofs.Common.{ap}
use Rattle.lisp_forms.specs.Trees.{tree_of}
use Rattle.std_macros.specs.Rules.{expansion}
use Rattle.std_macros.proofs.Added.{around_made}
use Rattle.std_macros.proofs.cases.choose.Goals as goal

pub returns : goal.returns
returns c = ap (expansion 1 (tree_of c.args.end)) (around_made _ _ _ _ _ _ c.in_ok-around.ensures c.reverse.ensures.items c.in_ok-push.ensures.items c.in_ok-kept_inner.ensures)
