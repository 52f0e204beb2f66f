use Rattle.std.proofs.Common.{◌≡◌, sym, subst, List, true}
use Rattle.std.specs.List.{list_all}
use Rattle.debug_info.specs.declared.rows.SiteRow.{SiteRow}
use Rattle.debug_info.specs.Tables.{IsTables, is_site}
use Rattle.debug_info.specs.Texts.{bytes_of}
use Rattle.compiler.proofs.Images.{are_tables, tables_made}
use Rattle.compiler.proofs.emit.code_tables.Goals as goal

pub new-requires-3 : goal.new-requires-3
new-requires-3 c =
    let e = tables_made c.args.code.now (bytes_of c.in_ok-texts.texts.items) c.in_ok-sites.sites.items c.new.result.items c.new-2.result.items c.in_ok-texts.ensures c.in_ok-sites.ensures.rows c.new.ensures.items c.new-2.ensures.items in
    let right = subst (λ (rows : List SiteRow). list_all (is_site 1) rows ≡ true) c.in_ok-sites.ensures.rows c.in_ok-sites.ensures.rules in
    subst IsTables (sym e) (are_tables c.args.code.now c.requires right)
