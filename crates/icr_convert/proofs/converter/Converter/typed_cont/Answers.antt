use Rattle.std.proofs.Common.{IfOk, Option, sym, subst}
use Rattle.std.specs.Prelude.{option_map}
use Rattle.lisp_base.specs.declared.types.TypeSpec.{TypeSpec}
use Rattle.lisp_base.specs.Reading.{spec_of}
use Rattle.icr_convert.specs.Converting.{TypedCont}
use Rattle.icr_convert.proofs.converter.Converter.typed_cont.Goals as goal

pub returns-in-Some : goal.returns-in-Some
returns-in-Some c =
    subst (λ (o : Option TypeSpec). IfOk c.asserted_cont.result (TypedCont c.args.place (option_map spec_of o) c.args.self.now.built c.asserted_cont.new.self)) (sym c.in-Some.is) c.asserted_cont.ensures

pub returns-in-None : goal.returns-in-None
returns-in-None c =
    subst (λ (o : Option TypeSpec). IfOk c.cont.result (TypedCont c.args.place (option_map spec_of o) c.args.self.now.built c.cont.new.self)) (sym c.in-None.is) c.cont.ensures
