-- What stands up to a place is as much as does not stand behind it.
use Rattle.std.proofs.Common.{◌≡◌}
use Rattle.icr_graph.proofs.TwoParts.{behind_within, up_to_taken}
use Rattle.icr_graph.proofs.links.up_to.Goals as goal

pub overflow_sub-result : goal.overflow_sub-result
overflow_sub-result g c = rw c.behind-rest.ensures (behind_within _ c.args.items.now)

pub returns : goal.returns
returns g c = rw c.behind-rest.ensures (up_to_taken _ c.args.items.now)
