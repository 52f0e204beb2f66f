use Rattle.graph_meaning.proofs.Lawful.{graphs_are_never_full}
use Rattle.graph_edits.proofs.Outside.{deletable_cut_off}
use Rattle.graph_edits.proofs.Deletion.{unreached_same, deletion_kept_same, deletion_by_shape_same}
use Rattle.graph_edits.proofs.laws.deletion_kept.Goals as goal

pub returns-clause-unreached : goal.returns-clause-unreached
returns-clause-unreached c = unreached_same graphs_are_never_full

pub returns-clause-deletable : goal.returns-clause-deletable
returns-clause-deletable c = deletable_cut_off

pub returns-clause-kept : goal.returns-clause-kept
returns-clause-kept c = deletion_kept_same graphs_are_never_full

pub returns-clause-by_shape : goal.returns-clause-by_shape
returns-clause-by_shape c = deletion_by_shape_same graphs_are_never_full
