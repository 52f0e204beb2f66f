use Rattle.std.proofs.Common.{◌≡◌, drop}
use Rattle.std.specs.List.{list_all}
use Rattle.debug_info.specs.Tables.{is_text}
use Rattle.debug_info.specs.Texts.{bytes_of}
use Rattle.debug_info.proofs.rules.are_texts.Given as goal

abbrev pub invariant-loop-text : goal.invariant-loop-text
invariant-loop-text l = list_all is_text (bytes_of (drop l.text-index l.texts)) ≡ list_all is_text (bytes_of l.texts)
