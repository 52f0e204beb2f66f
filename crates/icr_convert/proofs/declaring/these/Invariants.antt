use Rattle.std.proofs.Common.{◌≡◌, ◌++◌, map, drop, Some}
use Rattle.ir_ids.specs.Entries.{map_of}
use Rattle.icr_convert.proofs.declaring.these.Given as goal

abbrev pub invariant-loop-number : goal.invariant-loop-number
invariant-loop-number l = map (map_of l.variables) l.numbers ≡ map Some l.found ++ map (map_of l.variables) (drop l.number-index l.numbers)
