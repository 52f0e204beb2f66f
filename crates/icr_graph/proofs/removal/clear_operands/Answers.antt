-- The function is the first of the operands.
use Rattle.std.proofs.Common.{ap, ◌∙◌}
use Rattle.ir_ids.specs.Entries.{map_of}
use Rattle.icr_graph.specs.Lists.{touched}
use Rattle.icr_graph.specs.Edits.{not_taken_by}
use Rattle.icr_graph.proofs.Touched.{touch_first, not_taken_twice}
use Rattle.icr_graph.proofs.removal.clear_operands.Goals as goal

pub returns-in-MvCombination : goal.returns-in-MvCombination
returns-in-MvCombination c =
    rw (c.in-MvCombination.is, ← c.as_slice-in-MvCombination.ensures)
    (c.clear_dests-in-MvCombination.ensures
    ∙ (ap (touched c.as_slice-in-MvCombination.result.now (not_taken_by c.args.node)) c.clear_dest.ensures
    ∙ touch_first (not_taken_by c.args.node) (not_taken_twice c.args.node) (map_of c.args.conts.now) c.in-MvCombination.function c.as_slice-in-MvCombination.result.now))
