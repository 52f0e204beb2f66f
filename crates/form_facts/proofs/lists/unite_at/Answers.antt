use Rattle.std.proofs.Common.{ap, ◌∙◌, refl, slice_index}
use Rattle.core_form.specs.Facts.{union}
use Rattle.form_facts.specs.View.{list_at, lists_of}
use Rattle.form_facts.specs.Lists.{lists_at}
use Rattle.form_facts.proofs.NumberLaws.{unite_next}
use Rattle.form_facts.proofs.lists.unite_at.Goals as goal

pub loop-place-preserved : goal.loop-place-preserved
loop-place-preserved c =
    let lists = lists_of c.args.lists.now in
    unite_next (list_at lists) (lists_at lists) (λ x xs. refl) c.loop-place.all c.unite.new.self _ c.args.places.now c.loop-place.place-index 0 (slice_index c.args.places.now c.loop-place.place-index) c.loop-place-test.true refl
    (c.in_ok-unite.ensures ∙ ap (union c.loop-place.all) c.list_at.ensures) c.loop-place.invariant
