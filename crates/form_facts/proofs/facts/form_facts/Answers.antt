use Rattle.std.specs.Prelude.{[], flat_map}
use Rattle.std.proofs.Common.{ap, ◌∙◌}
use Rattle.core_form.specs.Reading.{top_of}
use Rattle.core_form.specs.Facts.{union}
use Rattle.closed_copies.specs.Walked.{tags_list}
use Rattle.form_facts.specs.View.{make_view, lists_of}
use Rattle.form_facts.specs.Parts.{set_by, left_by}
use Rattle.form_facts.specs.Read.{parts_list}
use Rattle.form_facts.specs.Lists.{closed_of_parts, joined}
use Rattle.form_facts.specs.Words.{kinds_of, settled_words}
use Rattle.form_facts.proofs.Known.{known}
use Rattle.form_facts.proofs.facts.form_facts.Goals as goal

pub returns : goal.returns
returns c = λ start.
    (let kinds = kinds_of c.args.symbols.now in
    let ps = parts_list c.in_ok-parts.parts.items in
    let tags = tags_list c.in_ok-locals.locals.tags.items in
    let locals = c.in_ok-locals.locals.numbers.items in
    let lists = lists_of c.in_ok-locals.locals.lists.items in
    let all = c.in_ok-all_closed.all_closed in
    let closed_are = c.in_ok-closed.ensures ∙ ap (λ qs. closed_of_parts tags locals lists (parts_list qs)) c.deref.ensures.value in
    let all_are = c.in_ok-all_closed.ensures ∙ ap (λ ls. union [] (joined (lists_of ls))) c.deref-2.ensures.value in
    let changed_are =
    c.in_ok-changed.ensures
    ∙ ap (λ qs. union (union [] (flat_map set_by (parts_list qs))) (flat_map (left_by (tags_list c.deref-4.result.now)) (parts_list qs))) c.deref-3.ensures.value
    ∙ ap (λ ts. union (union [] (flat_map set_by ps)) (flat_map (left_by (tags_list ts)) ps)) c.deref-4.ensures.value in
    let words_are = c.in_ok-words.ensures ∙ ap (λ qs. union [] (settled_words kinds all (parts_list qs))) c.deref-5.ensures.value in
    known (top_of c.args.form.now) start kinds (make_view c.in_ok-cells.cells c.in_ok-words.words c.in_ok-closed.closed.items) ps tags locals lists all c.in_ok-changed.changed
    c.in_ok-parts.ensures c.in_ok-locals.ensures.tags c.in_ok-locals.ensures.numbers c.in_ok-locals.ensures.lists closed_are all_are changed_are c.in_ok-cells.ensures words_are)
