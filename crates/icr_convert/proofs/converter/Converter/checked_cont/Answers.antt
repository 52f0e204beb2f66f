use Rattle.icr_convert.proofs.Entering.{if_ok, first_asserted}
use Rattle.icr_convert.proofs.converter.Converter.checked_cont.Goals as goal

pub returns-in_ok-spec-in-Some : goal.returns-in_ok-spec-in-Some
returns-in_ok-spec-in-Some c =
    if_ok c.asserted_cont.result
    (λ k cont. first_asserted c.args.place c.args.types.now c.in-Some.spec.now _ c.args.self.now.built c.asserted_cont.new.self k c.in_ok-spec-in-Some.ensures c.in-Some.ensures.value cont)
    c.asserted_cont.ensures
