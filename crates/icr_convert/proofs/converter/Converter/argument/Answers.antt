use Rattle.std.proofs.Common.{List, subst}
use Rattle.std.specs.Prelude.{map}
use Rattle.lisp_base.specs.declared.types.TypeSpec.{TypeSpec}
use Rattle.lisp_base.specs.Reading.{spec_of}
use Rattle.core_form.specs.Reading.{parameter_of}
use Rattle.graph_building.specs.Built.{NewCont}
use Rattle.icr_convert.specs.Coding.{FirstAsserted}
use Rattle.icr_convert.proofs.Entering.{on_ok, leaf_taken}
use Rattle.icr_convert.proofs.converter.Converter.argument.Goals as goal

pub returns-clause-stands : goal.returns-clause-stands
returns-clause-stands c =
    let cont = subst (λ (ts : List TypeSpec). NewCont (FirstAsserted c.args.place (map spec_of ts)) c.args.self.now.built c.checked_cont.new.self.built c.in_ok-value.value) c.deref.ensures.value c.in_ok-value.ensures in
    on_ok c.parameter.result (leaf_taken c.args.names.now c.args.place c.args.leaf (parameter_of c.args.parameter.now) c.in_ok-value.value _ _ _ _ _ cont c.in_ok-plain.ensures) c.parameter.ensures.stands
