use Rattle.std.specs.Prelude.{◌≡◌}
use Rattle.std.proofs.Common.{◌∙◌}
use Rattle.std.proofs.lemmas.Result.{IfOk-weaker}
use Rattle.core_form.specs.Facts.{without}
use Rattle.closed_copies.specs.Walked.{entry_of}
use Rattle.form_facts.specs.View.{lists_of}
use Rattle.form_facts.specs.Lists.{closed_from}
use Rattle.form_facts.proofs.Closed.{closed_by}
use Rattle.form_facts.proofs.lists.closed_with.Goals as goal

pub returns : goal.returns
returns c =
    let lists = lists_of c.args.lists.now in
    let function = entry_of c.args.function.now in
    let same = closed_by lists function c.as_slice.result.now c.unite_at.new.all c.in_ok-all.all c.in_ok-inner.inner c.deref.result.now c.deref-2.result.now c.deref-3.result.now
    c.as_slice.ensures c.in_ok-unite_at.ensures c.in_ok-all.ensures c.in_ok-inner.ensures c.deref.ensures.value c.deref-2.ensures.value c.deref-3.ensures.value in
    IfOk-weaker c.others_of.result (λ closed. closed.items ≡ without c.as_slice.result.now c.in_ok-inner.inner) (λ closed. closed.items ≡ closed_from lists function) (λ closed h. h ∙ same) c.others_of.ensures
