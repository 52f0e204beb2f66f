use Rattle.std.proofs.Common.{ap, ◌∙◌, refl}
use Rattle.core_form.specs.Facts.{union}
use Rattle.form_facts.specs.View.{items_of, lists_of}
use Rattle.form_facts.specs.Lists.{joined}
use Rattle.form_facts.proofs.NumberLaws.{unite_next}
use Rattle.form_facts.proofs.lists.joined_in.Goals as goal

pub loop-list-preserved : goal.loop-list-preserved
loop-list-preserved c =
    unite_next items_of (λ vs. joined (lists_of vs)) (λ v vs. refl) c.loop-list.all c.unite.new.self _ c.args.lists.now c.loop-list.list-index c.list-item.result c.list-item.result c.loop-list-test.true c.list-item.is
    (c.in_ok-unite.ensures ∙ ap (union c.loop-list.all) c.deref.ensures.value) c.loop-list.invariant
