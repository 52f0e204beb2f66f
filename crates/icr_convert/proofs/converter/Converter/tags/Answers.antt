use Rattle.core_form.specs.ListReading.{items_list}
use Rattle.icr_convert.proofs.Tagging.{tags_begun, tags_at, tag_made, step_passed, all_tags}
use Rattle.icr_convert.proofs.converter.Converter.tags.Goals as goal
use Rattle.icr_convert.proofs.converter.Converter.tags.Goals.{in-Tag+in_ok-block+in_ok-push, in_default}

pub loop-item-init : goal.loop-item-init
loop-item-init c = tags_begun (items_list c.args.items.now) c.args.self.now.built c.new-tags.ensures.items

pub loop-item-preserved : goal.loop-item-preserved
loop-item-preserved c =
    let is = c.args.items.now in
    let i = c.loop-item.item-index in
    elim c.match-item.branch [
      | in-Tag+in_ok-block+in_ok-push w ↦ tags_at (λ k. (w.tags-is k).items) (λ k. (w.self-is k).built)
          (tag_made is i c.item-item.result (record { number = w.in-Tag.number; name = w.in-Tag.name; block = w.in_ok-block.block }) c.loop-item-test.true c.item-item.is w.in-Tag.is w.in_ok-push.ensures.items w.in_ok-block.ensures
          c.loop-item.invariant)
      | in_default w ↦ tags_at (λ k. (w.tags-is k).items) (λ k. (w.self-is k).built) (step_passed is i c.item-item.result w.in_default.field-0 c.loop-item-test.true c.item-item.is w.in_default.is c.loop-item.invariant)
    ]

pub returns-clause-tags : goal.returns-clause-tags
returns-clause-tags c = all_tags c.args.items.now c.loop-item.item-index c.loop-item.tags.items c.loop-item-test.false c.loop-item.invariant

pub returns-clause-beside : goal.returns-clause-beside
returns-clause-beside c = c.loop-item.invariant.beside
