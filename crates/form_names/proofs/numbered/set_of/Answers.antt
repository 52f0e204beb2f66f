use Rattle.std.proofs.Common.{◌||◌, drop, get_or, ◌+◌, ap, sym, ◌∙◌}
use Rattle.std.proofs.lemmas.List.{drop_more}
use Rattle.core_form.specs.Facts.{has_number}
use Rattle.form_names.proofs.Filled.{set_put}
use Rattle.form_names.proofs.numbered.set_of.Goals as goal

pub loop-number-preserved : goal.loop-number-preserved
loop-number-preserved c = λ q.
    let numbers = c.args.numbers.now in
    let i = c.loop-number.number-index in
    set_put c.loop-number.set.keys c.insert.new.self.keys (get_or numbers i 0) (drop (i + 1) numbers) c.in_ok-insert.ensures.updates.0 q
    ∙ ap (λ ns. has_number q c.loop-number.set.keys || has_number q ns) (sym (drop_more numbers i 0 c.loop-number-test.true)) ∙ c.loop-number.invariant q
