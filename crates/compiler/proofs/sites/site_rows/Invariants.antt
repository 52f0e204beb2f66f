use Rattle.std.proofs.Common.{◌≡◌, ◌+◌, ◌*◌, ◌++◌, drop, true}
use Rattle.std.specs.List.{list_all}
use Rattle.debug_info.specs.Tables.{is_site}
use Rattle.compiler.specs.Parts.{site_rows}
use Rattle.compiler.proofs.sites.site_rows.Given as goal

abbrev pub invariant-loop-slot : goal.invariant-loop-slot
invariant-loop-slot l = record {
  at : l.address ≡ 65536 + 4 * l.slot-index;
  rows : l.rows.items ++ site_rows l.address (drop l.slot-index l.code) ≡ site_rows 65536 l.code;
  rules : list_all (is_site 1) l.rows.items ≡ true;
}
