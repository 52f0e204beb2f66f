use Rattle.std.specs.Prelude.{◌≡◌, [], length, flat_map}
use Rattle.std.proofs.Common.{ap, ◌∙◌}
use Rattle.std.proofs.lemmas.Result.{IfOk-weaker}
use Rattle.core_form.specs.Facts.{union, without, repeat}
use Rattle.form_facts.specs.Parts.{read_by}
use Rattle.form_facts.specs.Read.{parts_list, those_parameters}
use Rattle.form_facts.specs.Words.{kinds_of, next_words, declared_of, settled_words}
use Rattle.form_facts.proofs.words.words_in.Goals as goal

pub returns : goal.returns
returns c =
    let ps = parts_list c.args.parts.now in
    let closed = c.args.closed.now in
    let kinds = kinds_of c.args.symbols.now in
    let reads = c.in_ok-reads.ensures ∙ c.in_ok-reads_in.ensures in
    let declared =
    c.deref-2.ensures.value ∙ c.in_ok-declared.ensures ∙ ap (λ xs. declared_of kinds (those_parameters xs)) c.deref.ensures.value ∙ ap (declared_of kinds) c.in_ok-parameters.ensures in
    let open_are = c.deref-3.ensures.value ∙ c.in_ok-open.ensures ∙ ap (λ xs. without xs closed) declared in
    let words =
    c.deref-4.ensures.value ∙ c.in_ok-words.ensures ∙ ap (λ rs. repeat (length c.deref-3.result.now) (next_words rs ps) c.deref-3.result.now) reads
    ∙ ap (λ xs. repeat (length xs) (next_words (flat_map read_by ps) ps) xs) open_are in
    IfOk-weaker c.of-2.result (λ all. all ≡ union [] c.deref-4.result.now) (λ all. all ≡ union [] (settled_words kinds closed ps)) (λ all h. h ∙ ap (union []) words) c.of-2.ensures
