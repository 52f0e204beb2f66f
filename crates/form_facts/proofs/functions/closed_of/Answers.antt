use Rattle.std.specs.Prelude.{◌≡◌}
use Rattle.std.proofs.Common.{ap, ◌∙◌}
use Rattle.std.proofs.lemmas.Result.{IfOk-weaker}
use Rattle.core_form.specs.Reading.{lambda_of}
use Rattle.closed_copies.specs.Table.{entry}
use Rattle.closed_copies.specs.Walked.{entry_of, tags_list}
use Rattle.form_facts.specs.View.{lists_of}
use Rattle.form_facts.specs.Lists.{closed_from, closed_of_lambda}
use Rattle.form_facts.proofs.functions.closed_of.Goals as goal

pub returns : goal.returns
returns c =
    let l = lambda_of c.args.lambda.now in
    let tags = tags_list c.args.locals.now.tags.items in
    let numbers = c.args.locals.now.numbers.items in
    let lists = lists_of c.args.locals.now.lists.items in
    let own =
    c.in_ok-function.ensures ∙ ap (λ ts. entry (tags_list ts) c.deref-2.result.now l) c.deref.ensures.value ∙ ap (λ ns. entry tags ns l) c.deref-2.ensures.value in
    let same = ap (λ ls. closed_from (lists_of ls) (entry_of c.in_ok-function.function)) c.deref-3.ensures.value ∙ ap (closed_from lists) own in
    IfOk-weaker c.closed_with.result (λ closed. closed.items ≡ closed_from (lists_of c.deref-3.result.now) (entry_of c.in_ok-function.function)) (λ closed. closed.items ≡ closed_of_lambda tags numbers lists l)
    (λ closed h. h ∙ same) c.closed_with.ensures
