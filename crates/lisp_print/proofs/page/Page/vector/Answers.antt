use Rattle.std.proofs.Common.{arith, length, suc, ◌≡◌}
use Rattle.std.proofs.lemmas.Grind.{common_steps}
use Rattle.lisp_base.specs.Shown.{item_count}
use Rattle.lisp_print.proofs.InOrder.{of_none, of_some}
use Rattle.lisp_print.proofs.Unfolds.{elements_cut, elements_end, elements_more}
use Rattle.lisp_print.proofs.page.Page.vector.Goals as goal

pub returns-then-done-limits-clause-text : goal.returns-then-done-limits-clause-text
returns-then-done-limits-clause-text g c =
    let shown = g.V.View.shown c.args.view.now in
    let there = of_some (item_count (shown.shape c.args.vector)) c.args.done (shown.element c.args.vector c.args.done) c.in-Some.item (cc) in
    let e = elements_cut c.args.limits shown (suc (length c.args.self.now.parts)) c.args.done c.args.self.now.left c.args.vector there.0 (omega arith) in
    grind (arith, common_steps, e)

pub returns-else-done-limits-clause-text : goal.returns-else-done-limits-clause-text
returns-else-done-limits-clause-text g c =
    let shown = g.V.View.shown c.args.view.now in
    let there = of_some (item_count (shown.shape c.args.vector)) c.args.done (shown.element c.args.vector c.args.done) c.in-Some.item (cc) in
    let e = elements_more c.args.limits shown (suc (length c.args.self.now.parts)) c.args.done c.args.self.now.left c.args.vector there.0 in
    let same : shown.element c.args.vector c.args.done ≡ c.in-Some.item = there.1 in
    grind (arith, common_steps, e, same)

pub returns-in-None-clause-text : goal.returns-in-None-clause-text
returns-in-None-clause-text g c =
    let shown = g.V.View.shown c.args.view.now in
    let none = of_none (item_count (shown.shape c.args.vector)) c.args.done (shown.element c.args.vector c.args.done) (cc) in
    let e = elements_end c.args.limits shown (suc (length c.args.self.now.parts)) c.args.done c.args.self.now.left c.args.vector none in
    grind (arith, common_steps, e)
