use Rattle.std.proofs.Common.{rules}
use Rattle.lisp_print.proofs.InOrder.{nil_letters}
use Rattle.lisp_print.proofs.atoms.is_nil.Goals as goal

pub returns-else-is_letter-2 : goal.returns-else-is_letter-2
returns-else-is_letter-2 g c =
    let e = nil_letters ((g.V.View.shown c.args.view.now).letter c.args.w) c.args.count in
    search (rules, e)
