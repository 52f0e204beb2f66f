use Rattle.std.proofs.Common.{List, subst}
use Rattle.std.specs.Prelude.{map}
use Rattle.lisp_base.specs.declared.types.TypeSpec.{TypeSpec}
use Rattle.lisp_base.specs.Reading.{spec_of}
use Rattle.core_form.specs.Reading.{parameter_of}
use Rattle.icr_convert.specs.Coding.{Checks}
use Rattle.icr_convert.proofs.Entering.{parameter_taken}
use Rattle.icr_convert.proofs.converter.Converter.parameter.Goals as goal

pub returns-clause-stands : goal.returns-clause-stands
returns-clause-stands c =
    let checks = subst (λ (ts : List TypeSpec). Checks c.args.place (map spec_of ts) c.args.value c.args.self.now.built c.checks.new.self.built c.in_ok-checked.checked) c.deref.ensures.value c.in_ok-checked.ensures in
    parameter_taken c.args.names.now c.args.place (parameter_of c.args.parameter.now) c.args.value c.in_ok-checked.checked c.args.self.now.built c.checks.new.self.built c.bind.new.self.built checks c.in_ok-by.ensures
