use Rattle.std.proofs.Common.{arith, length}
use Rattle.std.proofs.lemmas.Grind.{common_steps}
use Rattle.lisp_print.proofs.Unfolds.{list_begun, object_at_none, object_plain, vector_begun}
use Rattle.lisp_print.proofs.page.Page.object.Goals as goal

pub returns-then-self-eq0-clause-text : goal.returns-then-self-eq0-clause-text
returns-then-self-eq0-clause-text g c =
    let e = object_at_none c.args.limits (g.V.View.shown c.args.view.now) (length c.args.self.now.parts) c.args.self.now.left c.args.w (omega arith) in
    grind (arith, common_steps, e)

pub returns-in-Cons-clause-text : goal.returns-in-Cons-clause-text
returns-in-Cons-clause-text g c =
    let e = list_begun c.args.limits (g.V.View.shown c.args.view.now) c.args.self.now.parts c.args.self.now.left c.args.w c.in-Cons.field-0 c.in-Cons.field-1 (omega arith) (omega arith) (cc) in
    grind (arith, common_steps, e)

pub returns-in-Vector-clause-text : goal.returns-in-Vector-clause-text
returns-in-Vector-clause-text g c =
    let e = vector_begun c.args.limits (g.V.View.shown c.args.view.now) c.args.self.now.parts c.args.self.now.left c.args.w c.in-Vector.field-0 (omega arith) (omega arith) (cc) in
    grind (arith, common_steps, e)

pub returns-in_default-clause-text : goal.returns-in_default-clause-text
returns-in_default-clause-text g c =
    let e = object_plain c.args.limits (g.V.View.shown c.args.view.now) (length c.args.self.now.parts) c.args.self.now.left c.args.w (omega arith) (omega arith) c.shape.result (cc) c.in_default.not-Cons c.in_default.not-Vector in
    grind (arith, common_steps, e)
