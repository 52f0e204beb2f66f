-- The debug tables as they lie in memory, read as plain tables.
use Rattle.std.specs.Prelude.{ℕ, List, map, String}
use Rattle.std.specs.String.{string_bytes}
use Rattle.std.specs.Global.{Global}
use Rattle.debug_info.specs.declared.rows.SiteRow.{SiteRow}
use Rattle.debug_info.specs.declared.rows.FunRow.{FunRow}
use Rattle.debug_info.specs.declared.rows.VarRow.{VarRow}
use Rattle.debug_info.specs.Tables.{Tables}

abbrev pub bytes_of : List (String Global) → List (List ℕ)
bytes_of texts = map string_bytes texts

abbrev pub tables_of : List (String Global) → List SiteRow → List FunRow → List VarRow → Tables
tables_of texts sites functions variables =
    record { texts = bytes_of texts; sites = sites; functions = functions; variables = variables }
