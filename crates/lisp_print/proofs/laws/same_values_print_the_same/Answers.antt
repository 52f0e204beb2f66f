use Rattle.std.proofs.Common.{ap}
use Rattle.lisp_print.specs.Printing.{depth_of, tree_text, word_text}
use Rattle.lisp_print.proofs.laws.same_values_print_the_same.Goals as goal

pub returns : goal.returns
unfolding word_text
returns g c a b v w limits same = ap (tree_text limits) (same (depth_of limits))
