use Rattle.std.proofs.Common.{◌≡◌, ◌++◌, drop}
use Rattle.std.specs.String.{string_bytes}
use Rattle.type_spec.specs.Texts.{items_text}
use Rattle.type_spec.proofs.text.add_members.Given as goal

abbrev pub invariant-loop-item : goal.invariant-loop-item
invariant-loop-item l =
    string_bytes l.text ++ items_text l.symbols (drop l.item-index l.items) ≡ string_bytes l.initial.text ++ items_text l.symbols l.items
