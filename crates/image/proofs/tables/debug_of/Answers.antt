use Rattle.std.proofs.Common.{arith}
use Rattle.debug_info.specs.Texts.{tables_of}
use Rattle.image.proofs.TableLaws.{debug_takes, IsTables-from_read}
use Rattle.image.proofs.tables.debug_of.Goals as goal

pub new-requires : goal.new-requires
new-requires c =
    let r = c.in_ok-texts.field-0 in
    let t = tables_of r.texts.items r.sites.items r.functions.items r.variables.items in
    IsTables-from_read c.args.bytes.now t c.requires (debug_takes c.args.end c.args.bytes.now t (λ i. omega (arith, c.type_inv.bytes i)) c.in_ok-texts.ensures)
