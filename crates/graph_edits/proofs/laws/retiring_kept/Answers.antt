use Rattle.graph_meaning.proofs.Lawful.{graphs_are_never_full}
use Rattle.graph_edits.proofs.Retiring.{retiring_kept_same}
use Rattle.graph_edits.proofs.Idle.{idle_have_no_effect}
use Rattle.graph_edits.proofs.laws.retiring_kept.Goals as goal

pub returns-clause-kept : goal.returns-clause-kept
returns-clause-kept c = retiring_kept_same graphs_are_never_full

pub returns-clause-idle : goal.returns-clause-idle
returns-clause-idle c = idle_have_no_effect
