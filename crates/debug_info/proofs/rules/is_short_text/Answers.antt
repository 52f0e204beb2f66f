use Rattle.std.proofs.lemmas.Str.{is_utf8-from_IsUtf8}
use Rattle.debug_info.proofs.Lookup.{is_text-long}
use Rattle.debug_info.proofs.rules.is_short_text.Goals as goal

pub returns : goal.returns
returns c = is_text-long c.as_str.result.now _ c.as_str.ensures.value (is_utf8-from_IsUtf8 c.as_str.result.now c.as_str.utf8)
