use Rattle.std.proofs.Common.{◌≡◌, ◌++◌, map, drop}
use Rattle.lisp_forms.specs.Trees.{tree_of}
use Rattle.lambda_lists.specs.Trees.{word}
use Rattle.lambda_lists.proofs.templates.test.Given as goal

abbrev pub invariant-loop-keyword : goal.invariant-loop-keyword
invariant-loop-keyword l = map tree_of l.words.items ++ map word (drop l.keyword-index l.keywords) ≡ map word l.keywords
