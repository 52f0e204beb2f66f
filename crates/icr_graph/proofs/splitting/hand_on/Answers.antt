-- Nothing comes after what is not there.
use Rattle.std.proofs.Common.{◌≡◌, ℕ, List, ap, ◌∙◌}
use Rattle.ir_ids.specs.Entries.{map_of}
use Rattle.icr_graph.specs.Lists.{changed, touched}
use Rattle.icr_graph.specs.Edits.{behind_block, ending_at}
use Rattle.icr_graph.proofs.splitting.hand_on.Goals as goal

pub returns-in_default : goal.returns-in_default
returns-in_default c =
    c.in_default.ensures.ended
    ∙ ap (λ (xs : List ℕ). touched xs (behind_block c.args.old c.args.new) (changed (ending_at c.args.node c.args.new) c.args.old (map_of c.args.blocks.now))) c.in_default.ensures.after
