use Rattle.std.proofs.Common.{◌≡◌, drop}
use Rattle.std.specs.Prelude.{flat_map}
use Rattle.lisp_base.specs.Laws.{specs_list}
use Rattle.core_form.specs.Facts.{not_integer}
use Rattle.form_facts.specs.Samples.{lacks_all}
use Rattle.form_facts.specs.Words.{kinds_of}
use Rattle.form_facts.proofs.samples.lacks_items.Given as goal

abbrev pub invariant-loop-item : goal.invariant-loop-item
invariant-loop-item l =
    lacks_all l.greatest (kinds_of l.symbols) (specs_list l.types) (flat_map not_integer (drop l.item-index l.items)) ≡ lacks_all l.greatest (kinds_of l.symbols) (specs_list l.types) (flat_map not_integer l.items)
