use Rattle.std.proofs.Common.{arith, ap}
use Rattle.std.proofs.lemmas.Grind.{common_steps}
use Rattle.lisp_base.specs.Reading.{spec_of}
use Rattle.lisp_base.specs.Tables.{make_table}
use Rattle.lisp_base.specs.InStore.{Store}
use Rattle.core_form.proofs.TextTypes.{types_alike}
use Rattle.core_form.proofs.text_words.write_type.Goals as goal

pub returns : goal.returns
returns c =
    let e = types_alike c.source.inside.symbols.now (make_table c.args.source.now.symbols 0) (ap (λ (s : Store). s.symbols) c.source.view_is) (spec_of c.args.spec.now) in
    grind (arith, common_steps, e)
