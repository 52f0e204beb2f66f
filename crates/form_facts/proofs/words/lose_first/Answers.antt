use Rattle.std.proofs.Common.{◌≡◌, ap, ◌∙◌}
use Rattle.std.proofs.lemmas.Result.{IfOk-weaker}
use Rattle.core_form.specs.Facts.{has_number, without}
use Rattle.form_facts.specs.Read.{parts_list}
use Rattle.form_facts.specs.Given.{LosesFirst}
use Rattle.form_facts.proofs.NumberLaws.{without_once}
use Rattle.form_facts.proofs.words.lose_first.Goals as goal

pub returns : goal.returns
returns c =
    let words = c.args.declared.now in
    let is_kept = ap (without words) c.in_ok-among.ensures ∙ without_once words c.deref.result.now ∙ ap (without words) (c.deref.ensures.value ∙ c.in_ok-kept.ensures) in
    IfOk-weaker c.others_of.result (λ first. first.items ≡ without words c.in_ok-among.among) (λ first. LosesFirst c.args.reads.now (parts_list c.args.parts.now) words first.items)
    (λ first is x. ap (has_number x) (is ∙ is_kept)) c.others_of.ensures
