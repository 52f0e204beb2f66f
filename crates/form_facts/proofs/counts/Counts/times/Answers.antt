use Rattle.std.proofs.Common.{◌∙◌, ap, unwrap_or}
use Rattle.core_form.specs.Facts.{times_in}
use Rattle.form_facts.proofs.NumberSets.{counted_times}
use Rattle.form_facts.proofs.counts.Counts.times.Goals as goal

pub returns : goal.returns
returns c =
    c.unwrap_or.ensures ∙ ap (λ o. unwrap_or o 0) (c.copied.ensures ∙ c.get.ensures.value) ∙ c.self.invariant c.args.number
    ∙ counted_times c.args.number c.self.inside.numbers.items ∙ ap (times_in c.args.number) c.self.view_is
