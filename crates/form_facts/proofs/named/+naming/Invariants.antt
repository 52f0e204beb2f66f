use Rattle.std.proofs.Common.{◌≡◌, ◌++◌, drop}
use Rattle.lisp_base.specs.Laws.{specs_list}
use Rattle.core_form.specs.Facts.{all_items_named}
use Rattle.form_facts.proofs.named.+naming.Given as goal

abbrev pub invariant-note_named-loop-spec : goal.invariant-note_named-loop-spec
invariant-note_named-loop-spec l =
    l.named.items ++ all_items_named (specs_list (drop l.spec-index l.types)) ≡ l.initial.named.items ++ all_items_named (specs_list l.types)
