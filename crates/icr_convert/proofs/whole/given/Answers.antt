use Rattle.std.proofs.Common.{List, sym, ap, ◌∙◌}
use Rattle.core_form.specs.declared.tree.Core.{Core as Core'}
use Rattle.core_form.specs.declared.tree.Form.{Form as Form'}
use Rattle.core_form.specs.Reading.{form_of, cores_list}
use Rattle.icr_convert.specs.Whole.{set_first, set_in}
use Rattle.icr_convert.proofs.whole.given.Goals as goal

pub returns-in-Progn : goal.returns-in-Progn
returns-in-Progn c =
    let place = c.args.core.now.place in
    c.given_first.ensures ∙ ap (λ (xs : List Core'). set_first (cores_list xs)) c.deref.ensures.value
    ∙ ap set_in (sym (c.reads_lists.ensures.sequence place c.in-Progn.parts)) ∙ ap (λ (f : Form'). set_in (form_of place f)) (sym c.in-Progn.is)
