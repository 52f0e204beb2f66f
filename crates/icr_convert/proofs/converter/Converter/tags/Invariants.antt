use Rattle.std.proofs.Common.{drop}
use Rattle.core_form.specs.ListReading.{items_list}
use Rattle.icr_convert.proofs.Tagging.{TagsMade}
use Rattle.icr_convert.proofs.converter.Converter.tags.Given as goal

abbrev pub invariant-loop-item : goal.invariant-loop-item
invariant-loop-item l = TagsMade (items_list l.items) (items_list (drop l.item-index l.items)) l.tags.items l.fn.self.built l.self.built
