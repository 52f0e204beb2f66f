use Rattle.std.proofs.Common.{◌∙◌, ap}
use Rattle.core_form.specs.Facts.{has_number}
use Rattle.form_facts.proofs.NumberSets.{any_is}
use Rattle.form_facts.proofs.numbers.Numbers.has.Goals as goal

pub returns : goal.returns
returns c = c.contains.ensures ∙ any_is c.args.number c.self.inside.set.keys ∙ ap (has_number c.args.number) c.self.view_is
