-- Which site an address belongs to: a row holds from its address to that of the next row.
use Rattle.std.specs.Prelude.{ℕ, nat_le, List, [], ◌∷◌, Option, Some, None, if◌then◌else◌}
use Rattle.std.specs.Option.{option_map, option_or}
use Rattle.debug_info.specs.declared.rows.Site.{Site}
use Rattle.debug_info.specs.declared.rows.SiteRow.{SiteRow}

-- what a row says of its addresses
abbrev pub site_of : SiteRow → Site
site_of r = record { place = r.place; text = r.text }

-- the last of the rows whose address isn't above the given one
abbrev pub last_not_above : ℕ → List SiteRow → Option SiteRow
last_not_above pc [] = None
last_not_above pc (r ∷ rs) = option_or (last_not_above pc rs) (if nat_le r.pc pc then Some r else None)

abbrev pub place_of : List SiteRow → ℕ → Option Site
place_of rows pc = option_map site_of (last_not_above pc rows)
