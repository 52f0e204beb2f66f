use Rattle.std.specs.Int.{w32, w64, to_le_bytes}
use Rattle.debug_info.specs.Spelling.{place_bytes}
use Rattle.image.proofs.Wholes.{append3}
use Rattle.image.proofs.writing.put_site.Goals as goal

pub returns : goal.returns
returns c =
    let row = c.args.row.now in
    rw (← c.number_of.ensures) (append3 c.put_u32.result c.args.out.now.items (to_le_bytes w64 row.pc) (place_bytes row.place) (to_le_bytes w32 c.number_of.result) _ _ _ c.in_ok-put_u64.ensures c.in_ok-put_place.ensures c.put_u32.ensures)
