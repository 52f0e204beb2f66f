use Rattle.std.proofs.Common.{List, subst}
use Rattle.std.specs.Prelude.{map}
use Rattle.lisp_base.specs.declared.types.TypeSpec.{TypeSpec}
use Rattle.lisp_base.specs.Reading.{spec_of}
use Rattle.core_form.specs.Reading.{core_of}
use Rattle.graph_building.specs.Built.{NewCont}
use Rattle.icr_convert.specs.declared.setting.Setting.{Setting}
use Rattle.icr_convert.specs.Converting.{Converts}
use Rattle.icr_convert.specs.Coding.{FirstAsserted}
use Rattle.icr_convert.proofs.FunctionCode.{default_taken}
use Rattle.icr_convert.proofs.converter.Converter.argument_or_default.Goals as goal

pub returns : goal.returns
returns c =
    let o = c.args.optional.now in
    let value = subst (λ (ts : List TypeSpec). NewCont (FirstAsserted c.args.place (map spec_of ts)) c.cont.new.self c.checked_cont.new.self.built c.in_ok-value.value) c.deref.ensures.value c.in_ok-value.ensures in
    let converts = subst (λ (st : Setting). Converts c.args.names.now st (core_of o.default) c.go_on.new.self c.convert.new.self.built) c.value.ensures c.in_ok-convert.ensures in
    default_taken c.args.names.now c.args.place c.args.argument o c.in_ok-test.test c.in_ok-value.value c.in_ok-given.given c.in_ok-missing.missing c.in_ok-join.join c.in_ok-plain.field-0 c.in_ok-plain-2.field-0 c.in_ok-plain-3.field-0
    c.args.self.now.built c.cont.new.self c.checked_cont.new.self.built c.plain.new.self.built c.plain-2.new.self.built c.block.new.self c.block-2.new.self c.block-3.new.self c.fork.new.self c.plain-3.new.self.built c.go_on.new.self
    c.convert.new.self.built c.go_on-2.new.self c.in_ok-test.ensures value c.in_ok-plain.ensures c.in_ok-plain-2.ensures c.in_ok-given.ensures c.in_ok-missing.ensures c.in_ok-join.ensures c.in_ok-fork.ensures c.in_ok-plain-3.ensures
    c.in_ok-go_on.ensures converts c.in_ok-go_on-2.ensures
