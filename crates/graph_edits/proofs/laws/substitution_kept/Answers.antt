use Rattle.graph_meaning.proofs.Lawful.{graphs_are_never_full}
use Rattle.graph_edits.proofs.Substitution.{substitution_kept_same}
use Rattle.graph_edits.proofs.laws.substitution_kept.Goals as goal

pub returns : goal.returns
returns c = substitution_kept_same graphs_are_never_full
