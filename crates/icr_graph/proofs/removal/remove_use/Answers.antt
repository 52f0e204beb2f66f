-- One continuation is looked at.
use Rattle.std.proofs.Common.{◌∙◌}
use Rattle.ir_ids.specs.Entries.{map_of}
use Rattle.icr_graph.specs.Edits.{not_used_by}
use Rattle.icr_graph.proofs.Touched.{touch_one, not_used_twice}
use Rattle.icr_graph.proofs.removal.remove_use.Goals as goal

pub returns : goal.returns
returns c =
    rw c.in-Some.is
    (c.remove_use_of.ensures ∙ touch_one (not_used_by c.args.node) (not_used_twice c.args.node) (map_of c.args.conts.now) c.in-Some.id)
