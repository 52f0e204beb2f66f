use Rattle.std.proofs.Common.{ap, subst, ◌∙◌, refl, sym, arith, Result}
use Rattle.std.proofs.lemmas.Result.{err_from_is_err_and}
use Rattle.image.specs.Content.{Content, content}
use Rattle.image.specs.Fields.{Fault, Fails}
use Rattle.image.specs.Format.{image_of}
use Rattle.image.proofs.ImageLaws.{image_takes, image_again}
use Rattle.image.proofs.reading.read.Goals as goal

pub invariant_of-result : goal.invariant_of-result
invariant_of-result c =
    let p = c.in_ok-code.field-0 in
    record { first_version = refl; rules = (image_takes c.args.bytes.now (content p.code.items p.statics.items p.debug p.entry) (λ i. omega (arith, c.type_inv.bytes i)) c.in_ok-code.ensures).rules }

pub returns-clause-found : goal.returns-clause-found
returns-clause-found c =
    let p = c.in_ok-code.field-0 in
    let r = image_takes c.args.bytes.now (content p.code.items p.statics.items p.debug p.entry) (λ i. omega (arith, c.type_inv.bytes i)) c.in_ok-code.ensures in
    (r.rules, r.spelled)

pub returns-clause-only : goal.returns-clause-only
returns-clause-only c = λ i is e. sym (ap image_of e ∙ image_again i is) ∙ c.in_ok-code.ensures

pub returns-in_err-code-clause-only : goal.returns-in_err-code-clause-only
returns-in_err-code-clause-only c = λ i is e.
    let p = err_from_is_err_and c.from_residual.result c.from_residual.ensures.1 in
    rw (p.1, p.2) (subst (λ (read : Result Content Fault). Fails c.in_err-code.field-0.0 read) (ap image_of e ∙ image_again i is) c.in_err-code.ensures)
