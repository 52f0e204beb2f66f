use Rattle.std.proofs.Common.{Option, ℕ, sym, subst}
use Rattle.core_form.specs.declared.tree.Form.{Form}
use Rattle.core_form.specs.declared.tree.Form.TheVariants as variant
use Rattle.core_form.specs.Reading.{form_of}
use Rattle.icr_convert.specs.Converting.{KnowsFunction}
use Rattle.icr_convert.proofs.Named.{knows_local}
use Rattle.icr_convert.proofs.names.Names.known.Goals as goal

pub returns-in_ok-local_function-in-FunLocal : goal.returns-in_ok-local_function-in-FunLocal
returns-in_ok-local_function-in-FunLocal c =
    let place = c.args.function.now.place in
    let knows = knows_local c.args.self.now place c.in-FunLocal.number c.in_ok-local_function-in-FunLocal.field-0 c.args.arguments c.in_ok-local_function-in-FunLocal.ensures in
    subst (λ (f : Form). KnowsFunction c.args.self.now (form_of place f) c.args.arguments c.when_takes-in-FunLocal.result) (sym c.in-FunLocal.is)
    (subst (λ (f : Option ℕ). KnowsFunction c.args.self.now (form_of place (variant.FunLocal c.in-FunLocal.number)) c.args.arguments f) (sym c.when_takes-in-FunLocal.ensures) knows)
