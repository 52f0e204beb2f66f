use Rattle.std.proofs.Common.{◌≡◌, ◌<◌, ap, length, ◌∙◌}
use Rattle.std.proofs.lemmas.Result.{IfOk-weaker}
use Rattle.core_form.specs.Facts.{has_number, without, repeat}
use Rattle.form_facts.specs.Read.{parts_list}
use Rattle.form_facts.specs.Words.{next_words}
use Rattle.form_facts.proofs.LostWords.{some_there}
use Rattle.form_facts.proofs.words.settle.Goals as goal

pub returns : goal.returns
returns c =
    let words = c.args.declared.now in
    let some : 0 < length words = some_there words c.is_empty.result c.is_empty.ensures c.if-is_empty.false in
    IfOk-weaker c.others_of.result (λ left. left.items ≡ without words c.in_ok-lost.lost) (λ left. left.items ≡ repeat (length words) (next_words c.args.reads.now (parts_list c.args.parts.now)) words)
    (λ left is. is ∙ c.in_ok-lost.ensures c.args.reads.now (λ x. ap (has_number x) c.deref.ensures.value ∙ c.in_ok-first.ensures x) some) c.others_of.ensures
