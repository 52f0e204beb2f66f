use Rattle.std.specs.Int.{w32, w64, to_le_bytes}
use Rattle.image.specs.Content.{magic_number}
use Rattle.image.proofs.Wholes.{append6}
use Rattle.image.proofs.writing.put_header.Goals as goal

pub returns : goal.returns
returns c =
    append6 c.put_u64-4.result c.args.out.now.items (to_le_bytes w32 magic_number) (to_le_bytes w32 1) (to_le_bytes w64 c.args.code) (to_le_bytes w64 c.args.statics) (to_le_bytes w64 c.args.debug) (to_le_bytes w64 c.args.entry) _ _ _ _ _ _
    c.in_ok-put_u32.ensures c.in_ok-put_u32-2.ensures c.in_ok-put_u64.ensures c.in_ok-put_u64-2.ensures c.in_ok-put_u64-3.ensures c.put_u64-4.ensures
