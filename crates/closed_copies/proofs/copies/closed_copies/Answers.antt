use Rattle.std.specs.Prelude.{length, [], ◌++◌, ◌≡◌, flat_map}
use Rattle.std.proofs.Common.{ap, sym, ◌∙◌, arith}
use Rattle.std.proofs.lemmas.Result.{IfOk-weaker}
use Rattle.core_form.specs.Reading.{core_of}
use Rattle.closed_copies.specs.Copies.{within, closed_copies}
use Rattle.closed_copies.specs.Events.{events}
use Rattle.closed_copies.specs.Table.{tag_of, number_of, called_of, entries, all_referred}
use Rattle.closed_copies.specs.Walked.{events_list, tags_list, entries_list}
use Rattle.closed_copies.specs.Marks.{copies_of_all}
use Rattle.closed_copies.proofs.Totals.{all_computed, enough_entries}
use Rattle.closed_copies.proofs.copies.closed_copies.Goals as goal

pub copies_of_these-requires : goal.copies_of_these-requires
copies_of_these-requires c =
    let few : c.len.result ≡ length c.in_ok-numbers.numbers.items = omega (arith, c.in_ok-numbers.numbers.ok.0) in
    let numbers = c.in_ok-numbers.ensures ∙ ap (λ es. flat_map number_of (events_list es)) c.deref.ensures.value in
    let table =
    c.in_ok-table.ensures ∙ ap (λ es. entries (tags_list c.deref-6.result.now) c.deref-7.result.now (events_list es)) c.deref-5.ensures.value
    ∙ ap (λ ts. entries (tags_list ts) c.deref-7.result.now (events_list c.walk.new.events.items)) c.deref-6.ensures.value
    ∙ ap (λ ns. entries (tags_list c.in_ok-tags.tags.items) ns (events_list c.walk.new.events.items)) c.deref-7.ensures.value in
    enough_entries (events_list c.walk.new.events.items) (tags_list c.in_ok-tags.tags.items) c.in_ok-numbers.numbers.items c.deref-10.result.now c.len.result numbers
    (ap entries_list c.deref-10.ensures.value ∙ table) few

pub returns : goal.returns
returns c =
    let few : c.len.result ≡ length c.in_ok-numbers.numbers.items = omega (arith, c.in_ok-numbers.numbers.ok.0) in
    let es = events_list c.walk.new.events.items in
    let e = core_of c.args.form.now.core in
    let walked = c.in_ok-walk.ensures ∙ ap (λ xs. events_list xs ++ events e) c.new-events.ensures.items in
    let numbers = c.in_ok-numbers.ensures ∙ ap (λ xs. flat_map number_of (events_list xs)) c.deref.ensures.value in
    let tags = c.in_ok-tags.ensures ∙ ap (λ xs. flat_map tag_of (events_list xs)) c.deref-2.ensures.value in
    let places =
    c.deref-9.ensures.value ∙ c.in_ok-calls.ensures ∙ ap (λ xs. flat_map (called_of c.deref-4.result.now) (events_list xs)) c.deref-3.ensures.value
    ∙ ap (λ ns. flat_map (called_of ns) es) c.deref-4.ensures.value in
    let table =
    ap entries_list c.deref-10.ensures.value
    ∙ c.in_ok-table.ensures ∙ ap (λ xs. entries (tags_list c.deref-6.result.now) c.deref-7.result.now (events_list xs)) c.deref-5.ensures.value
    ∙ ap (λ ts. entries (tags_list ts) c.deref-7.result.now es) c.deref-6.ensures.value
    ∙ ap (λ ns. entries (tags_list c.in_ok-tags.tags.items) ns es) c.deref-7.ensures.value in
    let variables = c.deref-11.ensures.value ∙ c.in_ok-variables.ensures ∙ ap (λ ts. all_referred [] (entries_list ts)) (c.deref-8.ensures.value) in
    let all = all_computed e es (tags_list c.in_ok-tags.tags.items) c.in_ok-numbers.numbers.items c.deref-9.result.now (entries_list c.deref-10.result.now) c.deref-11.result.now c.len.result
    walked numbers tags places table (variables ∙ ap (λ ts. all_referred [] (entries_list ts)) (sym c.deref-10.ensures.value)) few in
    IfOk-weaker c.copies_of_these.result (λ n. n ≡ within c.args.most (copies_of_all c.len.result c.deref-9.result.now (entries_list c.deref-10.result.now) c.deref-11.result.now))
    (λ n. n ≡ within c.args.most (closed_copies e)) (λ n h. h ∙ ap (within c.args.most) all) c.copies_of_these.ensures
