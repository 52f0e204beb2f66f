use Rattle.std.proofs.Common.{◌≡◌, ◌++◌, length, take}
use Rattle.std.specs.Int.{w32, to_le_bytes}
use Rattle.std.specs.List.{flat_map}
use Rattle.debug_info.specs.Spelling.{text_bytes}
use Rattle.debug_info.specs.Texts.{bytes_of}
use Rattle.image.proofs.writing.put_texts.Given as goal

abbrev pub invariant-loop-text : goal.invariant-loop-text
invariant-loop-text l =
    l.out.items ≡ l.fn.out.items ++ (to_le_bytes w32 (length l.texts) ++ flat_map text_bytes (bytes_of (take l.text-index l.texts)))
