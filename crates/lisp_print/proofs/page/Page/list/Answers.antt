use Rattle.std.proofs.Common.{arith, length, suc}
use Rattle.std.proofs.lemmas.Grind.{common_steps}
use Rattle.lisp_print.proofs.Unfolds.{list_cut, list_element, list_last}
use Rattle.lisp_print.proofs.page.Page.list.Goals as goal

pub returns-then-done-limits-clause-text : goal.returns-then-done-limits-clause-text
returns-then-done-limits-clause-text g c =
    let e = list_cut c.args.limits (g.V.View.shown c.args.view.now) (suc (length c.args.self.now.parts)) c.args.done c.args.self.now.left c.args.rest c.in-Cons.car c.in-Cons.cdr (omega arith) (cc) (omega arith) in
    grind (arith, common_steps, e)

pub returns-else-done-limits-clause-text : goal.returns-else-done-limits-clause-text
returns-else-done-limits-clause-text g c =
    let e = list_element c.args.limits (g.V.View.shown c.args.view.now) (suc (length c.args.self.now.parts)) c.args.done c.args.self.now.left c.args.rest c.in-Cons.car c.in-Cons.cdr (omega arith) (cc) in
    grind (arith, common_steps, e)

pub returns-in_default-clause-text : goal.returns-in_default-clause-text
returns-in_default-clause-text g c =
    let e = list_last c.args.limits (g.V.View.shown c.args.view.now) (suc (length c.args.self.now.parts)) c.args.done c.args.self.now.left c.args.rest (omega arith) c.shape.result (cc) c.in_default.not-Cons in
    grind (arith, common_steps, e)
