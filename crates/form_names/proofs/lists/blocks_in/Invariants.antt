use Rattle.std.proofs.Common.{◌≡◌, ◌++◌, drop}
use Rattle.std.specs.Prelude.{flat_map}
use Rattle.form_names.specs.Parts.{block_of}
use Rattle.form_names.specs.Read.{parts_list}
use Rattle.form_names.proofs.lists.blocks_in.Given as goal

abbrev pub invariant-loop-part : goal.invariant-loop-part
invariant-loop-part l =
    l.blocks.items ++ flat_map block_of (parts_list (drop l.part-index l.parts)) ≡ flat_map block_of (parts_list l.parts)
