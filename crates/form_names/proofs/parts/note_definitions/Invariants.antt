use Rattle.std.proofs.Common.{◌≡◌, ◌++◌, drop}
use Rattle.core_form.specs.ListReading.{definitions_list}
use Rattle.form_names.specs.Parts.{definition_parts}
use Rattle.form_names.specs.Read.{parts_list}
use Rattle.form_names.proofs.parts.note_definitions.Given as goal

abbrev pub invariant-loop-definition : goal.invariant-loop-definition
invariant-loop-definition l =
    parts_list l.noted.items ++ definition_parts (definitions_list (drop l.definition-index l.definitions)) ≡ parts_list l.initial.noted.items ++ definition_parts (definitions_list l.definitions)
