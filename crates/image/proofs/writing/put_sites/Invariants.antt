use Rattle.std.proofs.Common.{◌≡◌, ◌++◌, length, take}
use Rattle.std.specs.Int.{w32, to_le_bytes}
use Rattle.std.specs.List.{flat_map}
use Rattle.debug_info.specs.Spelling.{site_bytes}
use Rattle.image.proofs.writing.put_sites.Given as goal

abbrev pub invariant-loop-row : goal.invariant-loop-row
invariant-loop-row l =
    l.out.items ≡ l.fn.out.items ++ (to_le_bytes w32 (length l.rows) ++ flat_map site_bytes (take l.row-index l.rows))
