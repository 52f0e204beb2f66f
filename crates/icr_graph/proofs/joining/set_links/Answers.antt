-- The block is the one that was there with other links.
use Rattle.std.proofs.Common.{◌≡◌, sym, refl}
use Rattle.icr_graph.specs.Joining.{with_links}
use Rattle.icr_graph.proofs.Written.{set_changed}
use Rattle.icr_graph.proofs.joining.set_links.Goals as goal

pub returns-in-Some : goal.returns-in-Some
returns-in-Some c =
    set_changed (with_links c.args.nodes c.args.after) c.args.blocks.now c.args.id c.in-Some.block.now _ (sym c.in-Some.ensures.value) refl
