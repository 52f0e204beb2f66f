use Rattle.std.proofs.Common.{◌≡◌, ◌+◌, drop, length}
use Rattle.std.specs.List.{flat_map}
use Rattle.debug_info.specs.Spelling.{text_bytes}
use Rattle.debug_info.specs.Texts.{bytes_of}
use Rattle.debug_info.proofs.rules.room_behind_texts.Given as goal

abbrev pub invariant-loop-text : goal.invariant-loop-text
invariant-loop-text l =
    4 + l.room + length (flat_map text_bytes (bytes_of l.texts)) ≡ l.fn.room + length (flat_map text_bytes (bytes_of (drop l.text-index l.texts)))
