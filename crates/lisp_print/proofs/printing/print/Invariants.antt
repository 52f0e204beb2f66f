use Rattle.std.proofs.Common.{◌≡◌, ◌≤◌, ◌++◌}
use Rattle.std.specs.String.{string_bytes}
use Rattle.lisp_print.specs.Printing.{word_text}
use Rattle.lisp_print.specs.Progress.{cost, unfinished}
use Rattle.lisp_print.proofs.printing.print.Given as goal

abbrev pub invariant-loop-part : goal.invariant-loop-part
invariant-loop-part g l = record {
  same : string_bytes l.page.text ++ unfinished l.limits (g.V.View.shown l.view) l.page.left l.page.parts ≡ word_text l.limits (g.V.View.shown l.view) l.fn.w;
  within : l.page.left ≤ l.limits.total;
}

abbrev pub decreases-loop-part : goal.decreases-loop-part
decreases-loop-part g l = cost l.limits l.page.left l.page.parts
