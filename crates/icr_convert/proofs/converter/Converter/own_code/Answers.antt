use Rattle.std.proofs.Common.{subst, true}
use Rattle.core_form.specs.Reading.{core_of}
use Rattle.icr_convert.specs.declared.setting.Setting.{Setting}
use Rattle.icr_convert.specs.Converting.{Converts}
use Rattle.icr_convert.proofs.WholeForms.{own_codes}
use Rattle.icr_convert.proofs.converter.Converter.own_code.Goals as goal

pub returns : goal.returns
returns c =
    own_codes (core_of c.args.form.now.core) c.in_ok-value.ensures
    (subst (λ (st : Setting). Converts c.args.names.now (record st { tail = true }) (core_of c.args.form.now.core) c.cont.new.self c.convert.new.self.built) c.value-body.ensures c.in_ok-convert.ensures)
    c.in_ok-plain.ensures
