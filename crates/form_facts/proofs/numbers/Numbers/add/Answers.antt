use Rattle.std.proofs.Common.{◌∙◌, ap, ◌∷◌, []}
use Rattle.core_form.specs.Facts.{union}
use Rattle.form_facts.proofs.NumberSets.{add_is}
use Rattle.form_facts.proofs.numbers.Numbers.add.Goals as goal

pub returns : goal.returns
returns c = c.in_ok-insert.ensures.keys ∙ add_is c.self.inside.set.keys c.args.number ∙ ap (λ ks. union ks (c.args.number ∷ [])) c.self.view_is
