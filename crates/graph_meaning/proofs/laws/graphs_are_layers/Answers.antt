use Rattle.graph_meaning.proofs.Lawful.{graphs_are_lawful, graphs_are_never_full}
use Rattle.graph_meaning.proofs.laws.graphs_are_layers.Goals as goal

pub returns-clause-lawful : goal.returns-clause-lawful
returns-clause-lawful c = graphs_are_lawful

pub returns-clause-full : goal.returns-clause-full
returns-clause-full c = graphs_are_never_full
