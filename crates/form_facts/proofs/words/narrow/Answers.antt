use Rattle.std.specs.Prelude.{◌≡◌}
use Rattle.std.proofs.Common.{ap, ◌∙◌}
use Rattle.std.proofs.lemmas.Result.{IfOk-weaker}
use Rattle.form_facts.specs.Read.{parts_list}
use Rattle.form_facts.specs.Words.{taken_in, kept_words, next_words}
use Rattle.form_facts.proofs.WordRounds.{taken_once}
use Rattle.form_facts.proofs.words.narrow.Goals as goal

pub returns : goal.returns
returns c =
    let ps = parts_list c.args.parts.now in
    let words = c.args.words.now in
    let taken = c.in_ok-taken.ensures ∙ c.in_ok-taken_in.ensures ∙ ap (λ ws. taken_in ws ps) c.in_ok-among.ensures ∙ taken_once words ps in
    IfOk-weaker c.kept.result (λ next. next.items ≡ kept_words c.args.reads.now c.in_ok-taken.taken words) (λ next. next.items ≡ next_words c.args.reads.now ps words)
    (λ next h. h ∙ ap (λ ts. kept_words c.args.reads.now ts words) taken) c.kept.ensures
