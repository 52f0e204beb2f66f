use Rattle.graph_meaning.proofs.Lawful.{graphs_are_never_full}
use Rattle.graph_edits.proofs.Blocks.{split_kept_same, join_kept_same}
use Rattle.graph_edits.proofs.laws.blocks_kept.Goals as goal

pub returns-clause-split : goal.returns-clause-split
returns-clause-split c = split_kept_same graphs_are_never_full

pub returns-clause-join : goal.returns-clause-join
returns-clause-join c = join_kept_same graphs_are_never_full
