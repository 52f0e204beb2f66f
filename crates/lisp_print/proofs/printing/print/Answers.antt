use Rattle.std.proofs.Common.{arith, ◌≡◌, ◌∙◌}
use Rattle.std.proofs.lemmas.Grind.{common_steps}
use Rattle.std.specs.String.{string_bytes}
use Rattle.lisp_print.specs.Printing.{word_text}
use Rattle.lisp_print.proofs.Unfolds.{at_any_depth, whole_begins}
use Rattle.lisp_print.proofs.printing.print.Goals as goal

pub loop-part-init : goal.loop-part-init
loop-part-init g c =
    let page = c.new-page.result in
    let e = whole_begins c.args.limits (g.V.View.shown c.args.view.now) (string_bytes page.text) page.parts page.left c.args.w c.new-page.ensures.text c.new-page.ensures.parts c.new-page.ensures.left in
    grind (arith, common_steps, e)

pub returns-clause-any_depth : goal.returns-clause-any_depth
returns-clause-any_depth g c depth deep =
    let shown = g.V.View.shown c.args.view.now in
    let text : string_bytes c.loop-part.page.text ≡ word_text c.args.limits shown c.args.w = grind (arith, common_steps) in
    text ∙ at_any_depth c.args.limits shown c.args.w depth deep
