use Rattle.std.proofs.Common.{subst, ap}
use Rattle.core_form.specs.Reading.{core_of}
use Rattle.icr_convert.specs.declared.setting.Setting.{Setting}
use Rattle.icr_convert.specs.Converting.{Converts}
use Rattle.icr_convert.proofs.FunctionCode.{body_taken}
use Rattle.icr_convert.proofs.converter.Converter.body.Goals as goal

pub returns : goal.returns
returns c =
    let e = core_of c.args.body.now in
    let converts = subst (λ (st : Setting). Converts c.args.names.now st e c.cont.new.self c.convert.new.self.built) (ap (λ (st : Setting). record st { tail = c.args.tail }) c.value-setting.ensures) c.in_ok-convert.ensures in
    body_taken c.args.names.now c.args.tail e c.in_ok-value.value c.args.self.now.built c.cont.new.self c.convert.new.self.built c.in_ok-value.ensures converts
