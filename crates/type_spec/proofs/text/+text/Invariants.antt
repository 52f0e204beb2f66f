use Rattle.std.proofs.Common.{◌≡◌, ◌++◌, drop}
use Rattle.std.specs.String.{string_bytes}
use Rattle.lisp_base.specs.Laws.{specs_list}
use Rattle.type_spec.specs.Texts.{specs_text}
use Rattle.type_spec.proofs.text.+text.Given as goal

abbrev pub invariant-add_parts-loop-part : goal.invariant-add_parts-loop-part
invariant-add_parts-loop-part l =
    string_bytes l.text ++ specs_text l.symbols (specs_list (drop l.part-index l.parts)) ≡ string_bytes l.initial.text ++ specs_text l.symbols (specs_list l.parts)
