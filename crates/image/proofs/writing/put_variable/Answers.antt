use Rattle.std.specs.Int.{w32, w64, to_le_bytes}
use Rattle.image.proofs.Wholes.{append4}
use Rattle.image.proofs.writing.put_variable.Goals as goal

pub returns : goal.returns
returns c =
    let row = c.args.row.now in
    rw (← c.location_of.ensures) (append4 c.put_u32-2.result c.args.out.now.items (to_le_bytes w64 row.from) (to_le_bytes w64 row.to) (to_le_bytes w32 row.name) (to_le_bytes w32 c.location_of.result) _ _ _ _ c.in_ok-put_u64.ensures c.in_ok-put_u64-2.ensures c.in_ok-put_u32.ensures c.put_u32-2.ensures)
